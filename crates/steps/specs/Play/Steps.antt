-- One machine's steps are plays, definition by definition, with what each costs: an attempt takes at most one chance and five values,
-- and a CounterZero spends a counter's one report. Assumes nothing.
use Rattle.machine.specs.Source.{draw_of}
use Rattle.std.specs.Prelude.{Result, Ok, Err, Option, Some, None}
use Rattle.std.specs.Option.{is_none}
use Rattle.steps.specs.declared.Step.{Step}
use Prim.Native.Nat.{ℕ, zero, suc, ◌+◌, ◌-◌, ◌*◌, ◌≤◌}
use Rattle.std.proofs.Common.{arith, true≢false}
use Rattle.std.proofs.Math.Bool.{Bool, true, false, not}
use Rattle.std.specs.Prelude.{◌&&◌, ◌||◌, List, ◌≡◌, Float}
use Rattle.std.proofs.Math.Path.{refl}
use Rattle.std.proofs.Math.Dec.{eqb}
use Rattle.machine.specs.Constants.{state_end, state_signal, counter_num}
use Rattle.machine.specs.Event.{event_of, limit_reached, counter_zero, signal}
use Rattle.machine.specs.Source.{Drawn, no, got, Source, chance_draw}
use Rattle.machine.specs.State.{state_row, first_of, count_of, sample_state}
use Rattle.machine.specs.declared.source.Place.{Place}
use Rattle.samples.specs.Action.{has_limit}
use Rattle.steps.specs.Limits.{below_action_limits}
use Rattle.steps.specs.Transition.{Env, env, no_action, with_state, with_counters, raise, enter, schedule_action, update_counters, scheduled_step, finish, finished, after_zero, after_counters, update_counter, entering, going, drawn, choosing, transition_by, zero_transition, transition, decrement_limit}
use Rattle.steps.specs.Events.{counted_by, after_transition, turn}
use Rattle.steps.specs.Play.{attempts, ask_chance, ends, after, Counts, one, attempted, leaves_map, RowServed, Plays, plays_end, plays_cond, plays_weaken, plays_on, plays_then}
use Rattle.steps.specs.Play.Samples.{Tallying, tally_drawn, Spent, unreported, owed, Tallies, untold, enter_plays, schedule_plays, counters_plays}
use Rattle.steps.specs.declared.MachineRuntime.{MachineRuntime}
use Rattle.steps.specs.declared.Context.{Context}
use Rattle.steps.specs.declared.Shared.{Shared}
use Rattle.steps.specs.declared.Zeroed.{Zeroed}
use Rattle.steps.specs.declared.TriggerAction.{TriggerAction}
use Rattle.steps.specs.declared.Update.{Update}

-- ---- what a call shares, without its place
pub record Flags : Type 0 where
  pub pending : ℕ
  pub zeroed : Zeroed

abbrev pub shared : Flags → Place → Shared
shared F at = record { signal_pending = F.pending; place = at; zeroed = F.zeroed }

abbrev pub spare : Flags → ℕ
spare F = unreported F.zeroed

-- ---- answers without their place, and how the step's type has them
record Upd : Type 0 where
  runtime : MachineRuntime
  flags : Flags
  action : Option TriggerAction
  allow : Bool
  changed : Bool

abbrev update : Upd → Place → Update
update u at = record {
  runtime = u.runtime;
  shared = shared u.flags at;
  action = u.action;
  allow_schedule = u.allow;
  state_changed = u.changed;
}

abbrev updated : Drawn Place Upd → Result Update ℕ
updated (no n at) = Err n
updated (got u at) = Ok (update u at)

pub record Stepping : Type 0 where
  pub runtime : MachineRuntime
  pub flags : Flags
  pub action : Option TriggerAction
  pub changed : Bool

abbrev pub stepped : Drawn Place Stepping → Result Step ℕ
stepped (no n at) = Err n
stepped (got d at) = Ok (record { runtime = d.runtime; shared = shared d.flags at; action = d.action; changed = d.changed })

-- ---- costs
-- c chances and v values beside those of further attempts, each of which spends a report
abbrev pub Within : ℕ → ℕ → Flags → Flags → Counts → Counts → Type 0
Within c v F F' k k' =
    (k'.attempts + spare F' ≤ k.attempts + spare F)
    × (k'.zeros + spare F' ≤ k.zeros + spare F)
    × (k'.signals ≤ k.signals)
    × (k'.chances + k.attempts ≤ k.chances + c + k'.attempts)
    × (k'.values + 5 * k.attempts ≤ k.values + v + 5 * k'.attempts)

-- a transition by event e at machine m; i is the machine whose signals are counted
abbrev pub Attempt : ℕ → ℕ → ℕ → Flags → Flags → Counts → Counts → Type 0
Attempt i e m F F' k k' =
    (k'.attempts + spare F' ≤ k.attempts + 1 + spare F)
    × (k'.zeros + spare F' ≤ k.zeros + one (eqb e counter_zero) + spare F)
    × (k'.signals ≤ k.signals + one (eqb e signal && eqb m i))
    × (k'.chances + k.attempts ≤ k.chances + k'.attempts)
    × (k'.values + 5 * k.attempts ≤ k.values + 5 * k'.attempts)

-- an event that is none of the machines' own
abbrev pub Ordinary : ℕ → Type 0
Ordinary e = (eqb e counter_zero ≡ false) × (eqb e signal ≡ false)

-- at most a attempts, of which at most g are Signal's at machine i, beside those that spend a report
abbrev pub Took : ℕ → ℕ → Flags → Flags → Counts → Counts → Type 0
Took a g F F' k k' =
    (k'.attempts + spare F' ≤ k.attempts + a + spare F)
    × (k'.zeros + spare F' ≤ k.zeros + spare F)
    × (k'.signals ≤ k.signals + g)
    × (k'.chances + k.attempts ≤ k.chances + k'.attempts)
    × (k'.values + 5 * k.attempts ≤ k.values + 5 * k'.attempts)

-- ---- transition and update_counter
module _ (Sound : Type 0) (rows transitions : List ℕ) (context : Context)
    (served : Sound → (state : ℕ) → RowServed (state_row rows state)) where
  abbrev E : Source Place → Env
  E D = env rows transitions D context

  abbrev Steps : Type 0
  Steps = Source Place → MachineRuntime → Shared → Option TriggerAction → Result Step ℕ

  -- a transition by event e is a play, from every machine
  abbrev Transits : ℕ → Steps → Type 0
  Transits e z =
      (r : MachineRuntime) (F : Flags) (p : Option TriggerAction)
      → Plays Sound stepped (λ i d. Attempt i e context.machine F d.flags) (λ D s. z D r (shared F s) p)

  abbrev StepsBy : ℕ → ℕ → Flags → Stepping → Counts → Counts → Type 0
  StepsBy c v F d = Within c v F d.flags

  -- a step that asks nothing
  still : (c v : ℕ) (r : MachineRuntime) (F F' : Flags) (p : Option TriggerAction) (changed : Bool) → spare F' ≡ spare F
      → Plays Sound stepped (λ i. StepsBy c v F) (λ D s. Ok (record { runtime = r; shared = shared F' s; action = p; changed = changed }))
  still c v r F F' p changed e =
      plays_end Sound stepped (λ i. StepsBy c v F) _ (record { runtime = r; flags = F'; action = p; changed = changed }) (λ D s. refl)
      (λ i k. omega arith)

  module _ (z : Steps) (again : Transits counter_zero z) where
    abbrev zeroed_by : Flags → Tallying → Flags
    zeroed_by F t = record { pending = F.pending; zeroed = t.zeroed }

    abbrev Reported : Flags → Tallying → Upd → Counts → Counts → Type 0
    Reported F t u k k' = owed t ≤ spare F → Within 0 0 F u.flags k k'

    report-plays : (r : MachineRuntime) (F : Flags) (p : Option TriggerAction) (t : Tallying)
        → Plays Sound updated (λ i. Reported F t)
        (λ D s. after_counters (z D) (E D) r (shared F s) p (tally_drawn (got t s)))
    report-plays r F p t =
        plays_cond Sound updated (λ i. Reported F t) _ _ t.reports
        (λ e. plays_then Sound stepped
        (λ i d. Attempt i counter_zero context.machine (zeroed_by F t) d.flags) updated
        (λ d i u k k'. (u.flags ≡ d.flags) × Spent 0 k k')
        (λ i. Reported F t)
        (λ D s. z D (with_counters r t.counters) (shared (zeroed_by F t) s) p) (λ D. after_zero)
        (again (with_counters r t.counters) (zeroed_by F t) p) (λ D n s. refl)
        (λ d. plays_end Sound updated _ _
        (record { runtime = d.runtime; flags = d.flags; action = d.action; allow = is_none d.action; changed = d.changed })
        (λ D s. refl) (λ i k. (refl, omega arith)))
        (λ i d u k k' k'' h m x. rw m.0 (omega (arith, h, m.1, told e x))))
        (λ e. plays_end Sound updated (λ i. Reported F t) _
        (record { runtime = with_counters r t.counters; flags = zeroed_by F t; action = p; allow = true; changed = false })
        (λ D s. refl) (λ i k x. omega (arith, x)))
      where
        told : t.reports ≡ true → owed t ≤ spare F → unreported t.zeroed + 1 ≤ spare F
        told e x = rw e at x

    update-plays : (row : List ℕ) (served' : Sound → RowServed row) (r : MachineRuntime) (F : Flags) (p : Option TriggerAction)
        → Plays Sound updated (λ i u. Within 0 2 F u.flags) (λ D s. update_counter (z D) (E D) row r (shared F s) p)
    unfolding update_counter
    update-plays row served' r F p =
        plays_on Sound tally_drawn (λ i. Tallies 2 (untold r.counters F.zeroed)) updated
        (λ t i. Reported F t) (λ i u. Within 0 2 F u.flags)
        (λ D s. update_counters row D.values r.counters F.zeroed s)
        (λ D s. after_counters (z D) (E D) r (shared F s) p)
        (λ t D s. after_counters (z D) (E D) r (shared F s) p (tally_drawn (got t s)))
        (counters_plays Sound row served' r.counters F.zeroed)
        (λ D n s₀ s. refl) (λ D t s₀ s. refl) (report-plays r F p)
        (λ i t u k k' k'' h m. let w = m (omega (arith, h.1)) in omega (arith, h.0, w))

    finish-plays : (row : List ℕ) (served' : Sound → RowServed row) (before : ℕ) (below : Bool) (u : Upd)
        → Plays Sound stepped (λ i. StepsBy 0 2 u.flags) (λ D s. finish row D.values before below (update u s))
    unfolding finish
    finish-plays row served' before below u =
        plays_cond Sound stepped (λ i. StepsBy 0 2 u.flags) _ _ (u.allow && below)
        (λ e. plays_on Sound draw_of (λ i p. Spent 2) stepped
        (λ p i d k k'. (d.flags ≡ u.flags) × Spent 0 k k') (λ i. StepsBy 0 2 u.flags)
        (λ D s. schedule_action row D.values s) (λ D s. scheduled_step (update u s) changed)
        (λ p D s. Ok (record { runtime = u.runtime; shared = shared u.flags s; action = Some p; changed = changed }))
        (schedule_plays Sound row served') (λ D n s₀ s. refl) (λ D p s₀ s. refl)
        (λ p. plays_end Sound stepped _ _ (record { runtime = u.runtime; flags = u.flags; action = Some p; changed = changed })
        (λ D s. refl) (λ i k. (refl, omega arith)))
        (λ i p d k k' k'' h m. rw m.0 (omega (arith, h, m.1))))
        (λ e. still 0 2 u.runtime u.flags u.flags u.action changed refl)
      where
        changed : Bool
        changed = u.changed || not (eqb before u.runtime.current_state)

    entering-plays : (row : List ℕ) (served' : Sound → RowServed row) (before : ℕ) (F : Flags) (p : Option TriggerAction) (r : MachineRuntime)
        → Plays Sound stepped (λ i. StepsBy 0 4 F)
        (λ D s. finished row D.values before (below_action_limits context r row) (update_counter (z D) (E D) row r (shared F s) p))
    entering-plays row served' before F p r =
        plays_then Sound updated (λ i u. Within 0 2 F u.flags) stepped (λ u i. StepsBy 0 2 u.flags) (λ i. StepsBy 0 4 F)
        (λ D s. update_counter (z D) (E D) row r (shared F s) p)
        (λ D. finished row D.values before (below_action_limits context r row))
        (update-plays row served' r F p) (λ D n s. refl) (finish-plays row served' before (below_action_limits context r row))
        (λ i u d k k' k'' h m. omega arith)

    going-plays : (r : MachineRuntime) (F : Flags) (p : Option TriggerAction) (x : Option ℕ)
        → Plays Sound stepped (λ i. StepsBy 0 5 F) (λ D s. going (z D) (E D) r (shared F s) p x)
    going-plays r F p None = still 0 5 r F F p false refl
    going-plays r F p (Some next) =
        plays_cond Sound stepped (λ i. StepsBy 0 5 F) _ _ (eqb next state_end)
        (λ e. still 0 5 (with_state r state_end r.state_limit) F F p true refl)
        (λ e. plays_cond Sound stepped (λ i. StepsBy 0 5 F) _ _ (eqb next state_signal)
        (λ e. still 0 5 r F (record { pending = raise F.pending context.machine; zeroed = F.zeroed }) p false refl)
        (λ e. plays_on Sound draw_of (λ i r. Spent 1) stepped (λ r i. StepsBy 0 4 F) (λ i. StepsBy 0 5 F)
        (λ D s. enter (state_row rows next) D.values r next s)
        (λ D s. entering (z D) (E D) (state_row rows next) r.current_state (shared F s) p) _
        (enter_plays Sound (state_row rows next) here r next) (λ D n s₀ s. refl) (λ D r s₀ s. refl)
        (entering-plays (state_row rows next) here r.current_state F p)
        (λ i r d k k' k'' h m. omega arith)))
      where
        here : Sound → RowServed (state_row rows next)
        here s = served s next

    chance-plays : Plays Sound draw_of (λ i c k k'. (k'.chances ≡ k.chances + 1) × (k'.values ≡ k.values)
        × (k'.attempts ≡ k.attempts) × (k'.zeros ≡ k.zeros) × (k'.signals ≡ k.signals)) (λ D s. chance_draw D.chance s)
    unfolding chance_draw
    chance-plays = record {
      play = ask_chance ends;
      same = λ D s. go (D.chance s);
      cost = λ i k c. omega arith;
      served = λ s c. tt;
    }
      where
        go : (d : Drawn Place Float) → draw_of d ≡ draw_of (after d (λ c s. got c s))
        go (no n s) = refl
        go (got c s) = refl

    choosing-plays : (event : ℕ) (r : MachineRuntime) (F : Flags) (p : Option TriggerAction)
        → Plays Sound stepped (λ i. StepsBy 1 5 F) (λ D s. choosing (z D) (E D) event r (shared F s) p)
    choosing-plays event r F p =
        plays_cond Sound stepped (λ i. StepsBy 1 5 F) _ _ (eqb r.current_state state_end)
        (λ e. still 1 5 r F F p false refl)
        (λ e. plays_cond Sound stepped (λ i. StepsBy 1 5 F) _ _ (eqb (count_of row event) 0)
        (λ e. still 1 5 r F F p false refl)
        (λ e. plays_on Sound draw_of _ stepped (λ c i. StepsBy 0 5 F) (λ i. StepsBy 1 5 F)
        (λ D s. chance_draw D.chance s) (λ D s. drawn (z D) (E D) row event r (shared F s) p) _
        chance-plays (λ D n s₀ s. refl) (λ D c s₀ s. refl)
        (λ c. going-plays r F p (sample_state transitions (first_of row event) (count_of row event) c))
        (λ i c d k k' k'' h m. omega arith)))
      where
        row : List ℕ
        row = state_row rows r.current_state

    by-plays : (event : ℕ) → Transits event (λ D. transition_by (z D) (E D) event)
    unfolding transition_by
    by-plays event r F p =
        let q = choosing-plays event r F p in
        record {
          play = attempts event context.machine q.play;
          same = λ D s. q.same D (D.attempt event context.machine s);
          cost = λ i k.
              leaves_map i (λ d. StepsBy 1 5 F d (attempted i event context.machine k))
              (λ d. Attempt i event context.machine F d.flags k) q.play
              (λ d k' h. omega arith)
              (attempted i event context.machine k) (q.cost i (attempted i event context.machine k));
          served = q.served;
        }

  zero-plays : (n : ℕ) → Transits counter_zero (λ D. zero_transition n (E D))
  unfolding zero_transition
  zero-plays zero r F p =
      plays_end Sound stepped _ _ (record { runtime = r; flags = F; action = p; changed = false }) (λ D s. refl)
      (λ i k. omega arith)
  zero-plays (suc n) r F p = by-plays (λ D. zero_transition n (E D)) (zero-plays n) counter_zero r F p

  pub transition_plays : (event : ℕ) → Transits event (λ D. transition (E D) event)
  transition_plays event r F p = by-plays (λ D. zero_transition counter_num (E D)) (zero-plays counter_num) event r F p

  -- ---- the fall of the state limit, and a whole turn
  decrement-plays : (r : MachineRuntime) (F : Flags) (p : Option TriggerAction)
      → Plays Sound stepped (λ i d. Took 1 0 F d.flags) (λ D s. decrement_limit (E D) r (shared F s) p)
  unfolding decrement_limit
  decrement-plays r F p =
      plays_cond Sound stepped (λ i d. Took 1 0 F d.flags) _ _
      (eqb (r.state_limit - 1) 0 && has_limit (state_row rows r.current_state))
      (λ e. plays_weaken Sound stepped (λ i d. Attempt i limit_reached context.machine F d.flags) (λ i d. Took 1 0 F d.flags) _
      (λ i d k k' h. omega (arith, h))
      (transition_plays limit_reached (with_state r r.current_state (r.state_limit - 1)) F no_action))
      (λ e. plays_end Sound stepped _ _
      (record { runtime = with_state r r.current_state (r.state_limit - 1); flags = F; action = p; changed = false })
      (λ D s. refl) (λ i k. omega arith))

  pub turn_plays : (kind : ℕ) (falls : Bool) (blocked : ℕ) (r : MachineRuntime) (F : Flags) (p : Option TriggerAction)
      → Plays Sound stepped (λ i d k k'. Ordinary (event_of kind) → Took (1 + one falls) 0 F d.flags k k')
      (λ D s. turn (E D) kind falls blocked r (shared F s) p)
  unfolding turn
  turn_plays kind falls blocked r F p =
      plays_then Sound stepped (λ i d. Attempt i (event_of kind) context.machine F d.flags) stepped
      (λ d i d'. Took (one falls) 0 d.flags d'.flags) _
      (λ D s. transition (E D) (event_of kind) (counted_by kind blocked r) (shared F s) p)
      (λ D. after_transition (E D) falls)
      (transition_plays (event_of kind) (counted_by kind blocked r) F p) (λ D n s. refl) (after_turn falls)
      (λ i d d' k k' k'' h m o. ordinary i d d' k k' k'' (eqb (event_of kind) counter_zero) (eqb (event_of kind) signal) o.0 o.1 h m)
    where
      ordinary : (i : ℕ) (d d' : Stepping) (k k' k'' : Counts) (y w : Bool) → y ≡ false → w ≡ false
          → (k'.attempts + spare d.flags ≤ k.attempts + 1 + spare F)
          × (k'.zeros + spare d.flags ≤ k.zeros + one y + spare F)
          × (k'.signals ≤ k.signals + one (w && eqb context.machine i))
          × (k'.chances + k.attempts ≤ k.chances + k'.attempts)
          × (k'.values + 5 * k.attempts ≤ k.values + 5 * k'.attempts)
          → Took (one falls) 0 d.flags d'.flags k' k'' → Took (1 + one falls) 0 F d'.flags k k''
      ordinary i d d' k k' k'' true w e f h m = absurd (true≢false e)
      ordinary i d d' k k' k'' false true e f h m = absurd (true≢false f)
      ordinary i d d' k k' k'' false false e f h m = omega (arith, h, m)

      after_turn : (falls : Bool) (d : Stepping)
          → Plays Sound stepped (λ i d'. Took (one falls) 0 d.flags d'.flags)
          (λ D s. after_transition (E D) falls (stepped (got d s)))
      after_turn false d = plays_end Sound stepped _ _ d (λ D s. refl) (λ i k. omega arith)
      after_turn true d =
          plays_cond Sound stepped _ _ _ (not d.changed && not (eqb d.runtime.current_state state_end))
          (λ e. decrement-plays d.runtime d.flags d.action)
          (λ e. plays_end Sound stepped _ _ d (λ D s. refl) (λ i k. omega arith))
