-- The walk over one machine's steps: what entering a state, the counters, END, SIGNAL, a scheduled action and the fall of a limit keep,
-- a transition, a turn and a signal keep. A lemma for each definition of `Transition`. Assumes nothing.
use Rattle.std.specs.Prelude.{Result, Ok, Err, Option, Some, None}
use Rattle.machine.specs.declared.source.Draw.{Draw}
use Rattle.steps.specs.declared.Step.{Step}
use Rattle.steps.specs.declared.Tally.{Tally}
use Prim.Native.Nat.{ℕ, zero, suc, ◌-◌}
use Rattle.std.specs.Prelude.{Bool, ◌&&◌, List, ◌≡◌, eqb, Float}
use Rattle.std.proofs.Math.Bool.{true, false, not}
use Rattle.std.proofs.Math.Path.{refl}
use Rattle.std.proofs.Common.{sym, ◌∙◌, subst}
use borrow.Author.Tests.{eqb-true, eqb-false}
use Rattle.machine.specs.Constants.{state_end, state_signal, counter_num}
use Rattle.machine.specs.Event.{event_of, limit_reached, counter_zero}
use Rattle.machine.specs.Source.{chance_draw}
use Rattle.machine.specs.State.{state_row, first_of, count_of, sample_state}
use Rattle.machine.specs.declared.source.Place.{Place}
use Rattle.samples.specs.Action.{sample_limit, has_limit}
use Rattle.steps.specs.Limits.{below_action_limits}
use Rattle.steps.specs.Transition.{Env, no_action, with_state, with_counters, with_place, with_tally, entered_with, enter, raise, schedule_action, update_counters, has_changed, scheduled_step, finish, finished, after_zero, after_counters, update_counter, entering, going, drawn, choosing, transition_by, zero_transition, transition, decrement_limit}
use Rattle.steps.specs.Events.{counted_by, after_transition, turn}
use Rattle.steps.specs.Runs.{either, by_test}
use Rattle.steps.specs.Draws.{Refuses, WholeOk, ChanceOk, Gives, ScheduledOk, TalliedOk, chance_ok, limit_ok, schedule_ok, counters_ok}
use Rattle.steps.specs.declared.MachineRuntime.{MachineRuntime}
use Rattle.steps.specs.declared.Counters.{Counters}
use Rattle.steps.specs.declared.Shared.{Shared}
use Rattle.steps.specs.declared.TriggerAction.{TriggerAction}
use Rattle.steps.specs.declared.Update.{Update}

-- What is kept: of the numbers of refusals, of a machine, of its pending action and of the pending signal.
pub record Kept : Type 1 where
  pub RefusedBy : ℕ → Type 0
  pub Machine : MachineRuntime → Type 0
  pub Action : Option TriggerAction → Type 0
  pub Signal : ℕ → Type 0

-- The row of a machine's state.
abbrev pub row_of : Env → MachineRuntime → List ℕ
row_of E r = state_row E.rows r.current_state

abbrev pub Alive : MachineRuntime → Type 0
Alive r = r.current_state ≡ state_end → ⊥

-- A state that a machine goes to: one that the transition table has for the machine's state, by an event and a draw.
pub record Chosen (E : Env) (r : MachineRuntime) (next : ℕ) : Type 0 where
  pub event : ℕ
  pub draw : Float
  pub alive : Alive r
  pub chosen : sample_state E.transitions (first_of (row_of E r) event) (count_of (row_of E r) event) draw ≡ Some next
  pub no_end : next ≡ state_end → ⊥
  pub no_signal : next ≡ state_signal → ⊥

-- What keeps it: each thing that a step does.
pub record Closed (E : Env) (K : Kept) : Type 0 where
  pub refuses : Refuses K.RefusedBy E.source
  pub enters : (r : MachineRuntime) (next limit : ℕ) → K.Machine r → Chosen E r next → K.Machine (with_state r next limit)
  pub ends : (r : MachineRuntime) → K.Machine r → Alive r → K.Machine (with_state r state_end r.state_limit)
  pub falls : (r : MachineRuntime) → K.Machine r → K.Machine (with_state r r.current_state (r.state_limit - 1))
  pub counters : (r : MachineRuntime) (c : Counters) → K.Machine r → K.Machine (with_counters r c)
  -- an action that the limits let pass, at the machine in its state and before the counters change
  pub schedules : (r : MachineRuntime) (a : TriggerAction) → K.Machine r → Alive r
      → below_action_limits E.context r (row_of E r) ≡ true → Gives (row_of E r) a → K.Action (Some a)
  pub clears : K.Action no_action
  pub raises : (pending : ℕ) → K.Signal pending → K.Signal (raise pending E.context.machine)

-- it holds after a step
abbrev pub Stays : Kept → Result Step ℕ → Type 0
Stays K (Err r) = K.RefusedBy r
Stays K (Ok d) = K.Machine d.runtime × K.Action d.action × K.Signal d.shared.signal_pending

module _ (E : Env) (K : Kept) (C : Closed E K) where
  open K use {RefusedBy, Machine, Action, Signal}

  abbrev UpdateStays : Result Update ℕ → Type 0
  UpdateStays (Err r) = RefusedBy r
  UpdateStays (Ok u) = Machine u.runtime × Action u.action × Signal u.shared.signal_pending

  abbrev EntryStays : ℕ → Result (Draw MachineRuntime) ℕ → Type 0
  EntryStays next (Err r) = RefusedBy r
  EntryStays next (Ok d) = Machine d.value × (d.value.current_state ≡ next)

  -- ---- entering a state
  enter-kept : (row : List ℕ) (r : MachineRuntime) (next : ℕ) (at : Place) → Machine r → Chosen E r next
      → EntryStays next (enter row E.source.values r next at)
  unfolding enter
  enter-kept row r next at h c =
      by_test (EntryStays next) (eqb r.current_state next) _ _ (λ e. (h, eqb-true r.current_state next e))
      (λ e. with (sample_limit row E.source.values at) (limit_ok RefusedBy E.source C.refuses row at))
    where
      with : (x : Result (Draw ℕ) ℕ) → WholeOk RefusedBy (λ v. Unit) x → EntryStays next (entered_with r next x)
      with (Err n) o = o
      with (Ok w) o = (C.enters r next w.value h c, refl)

  -- ---- after the counters: `below` was judged before them
  finish-kept : (row : List ℕ) (before : ℕ) (below : Bool) → (below ≡ true → (a : TriggerAction) → Gives row a → Action (Some a))
      → (u : Update) → UpdateStays (Ok u) → Stays K (finish row E.source.values before below u)
  unfolding finish
  finish-kept row before below j u o =
      by_test (Stays K) (u.allow_schedule && below) _ _
      (λ e. set (j (second u.allow_schedule below e)) (schedule_action row E.source.values u.shared.place)
      (schedule_ok RefusedBy E.source C.refuses row u.shared.place))
      (λ e. o)
    where
      second : (a b : Bool) → (a && b) ≡ true → b ≡ true
      second true b e = e
      second false true e = refl
      second false false e = e

      set : ((a : TriggerAction) → Gives row a → Action (Some a)) → (x : Result (Draw TriggerAction) ℕ) → ScheduledOk RefusedBy row x
          → Stays K (scheduled_step u (has_changed before u) x)
      set j (Err n) g = g
      set j (Ok d) g = (o.0, j d.value g, o.2)

  -- ---- transition and update_counter, given that a CounterZero transition keeps it
  abbrev Again : (MachineRuntime → Shared → Option TriggerAction → Result Step ℕ) → Type 0
  Again z =
      (r : MachineRuntime) (s : Shared) (a : Option TriggerAction) → Machine r → Action a → Signal s.signal_pending
      → Stays K (z r s a)

  module _ (z : MachineRuntime → Shared → Option TriggerAction → Result Step ℕ) (again : Again z) where
    update-kept : (row : List ℕ) (r : MachineRuntime) (s : Shared) (a : Option TriggerAction) → Machine r → Action a
        → Signal s.signal_pending → UpdateStays (update_counter z E row r s a)
    unfolding update_counter
    update-kept row r s a h p q =
        counted (update_counters row E.source.values r.counters s.zeroed s.place)
        (counters_ok RefusedBy E.source C.refuses row r.counters s.zeroed s.place)
      where
        after : (x : Result Step ℕ) → Stays K x → UpdateStays (after_zero x)
        after (Err n) o = o
        after (Ok d) o = o

        counted : (x : Result Tally ℕ) → TalliedOk RefusedBy x → UpdateStays (after_counters z E r s a x)
        counted (Err n) o = o
        counted (Ok t) o =
            let k = C.counters r t.counters h in
            either UpdateStays t.reports _ _
            (after (z (with_counters r t.counters) (with_tally s t) a)
            (again (with_counters r t.counters) (with_tally s t) a k p q)) (k, p, q)

    entering-kept : (next before : ℕ) (s : Shared) (a : Option TriggerAction) → (next ≡ state_end → ⊥) → Action a
        → Signal s.signal_pending → (x : Result (Draw MachineRuntime) ℕ) → EntryStays next x
        → Stays K (entering z E (state_row E.rows next) before s a x)
    entering-kept next before s a e p q (Err n) o = o
    entering-kept next before s a e p q (Ok d) o =
        finished-kept (update_counter z E row d.value (with_place s d.at) a) (update-kept row d.value (with_place s d.at) a o.0 p q)
      where
        row : List ℕ
        row = state_row E.rows next

        -- the row is that of the machine's state
        passes : below_action_limits E.context d.value row ≡ true → (b : TriggerAction) → Gives row b → Action (Some b)
        passes h b g =
            C.schedules d.value b o.0 (λ f. e (sym o.1 ∙ f))
            (subst (λ (m : ℕ). below_action_limits E.context d.value (state_row E.rows m) ≡ true) (sym o.1) h)
            (subst (λ (m : ℕ). Gives (state_row E.rows m) b) (sym o.1) g)

        finished-kept : (x : Result Update ℕ) → UpdateStays x
            → Stays K (finished row E.source.values before (below_action_limits E.context d.value row) x)
        finished-kept (Err n) u = u
        finished-kept (Ok u) w = finish-kept row before (below_action_limits E.context d.value row) passes u w

    going-kept : (event : ℕ) (draw : Float) (r : MachineRuntime) (s : Shared) (a : Option TriggerAction) → Machine r → Alive r → Action a
        → Signal s.signal_pending → (x : Option ℕ)
        → sample_state E.transitions (first_of (row_of E r) event) (count_of (row_of E r) event) draw ≡ x
        → Stays K (going z E r s a x)
    going-kept event draw r s a h l p q None e = (h, p, q)
    going-kept event draw r s a h l p q (Some next) e =
        by_test (Stays K) (eqb next state_end) _ _ (λ f. (C.ends r h l, p, q))
        (λ f. by_test (Stays K) (eqb next state_signal) _ _ (λ g. (h, p, C.raises s.signal_pending q))
        (λ g. entering-kept next r.current_state s a (eqb-false next state_end f) p q
        (enter (state_row E.rows next) E.source.values r next s.place)
        (enter-kept (state_row E.rows next) r next s.place h (record {
          event = event;
          draw = draw;
          alive = l;
          chosen = e;
          no_end = eqb-false next state_end f;
          no_signal = eqb-false next state_signal g;
        }))))

    choosing-kept : (event : ℕ) → Again (choosing z E event)
    choosing-kept event r s a h p q =
        by_test (Stays K) (eqb r.current_state state_end) _ _ (λ e. (h, p, q))
        (λ e. either (Stays K) (eqb (count_of (row_of E r) event) 0) _ _ (h, p, q)
        (chosen (eqb-false r.current_state state_end e) (chance_draw E.source.chance s.place)
        (chance_ok RefusedBy E.source C.refuses s.place)))
      where
        chosen : Alive r → (x : Result (Draw Float) ℕ) → ChanceOk RefusedBy x → Stays K (drawn z E (row_of E r) event r s a x)
        chosen l (Err n) o = o
        chosen l (Ok d) o =
            going-kept event d.value r (with_place s d.at) a h l p q
            (sample_state E.transitions (first_of (row_of E r) event) (count_of (row_of E r) event) d.value) refl

    by-kept : (event : ℕ) → Again (transition_by z E event)
    unfolding transition_by
    by-kept event r s a h p q =
        choosing-kept event r (with_place s (E.source.attempt event E.context.machine s.place)) a h p q

  zero-kept : (k : ℕ) → Again (zero_transition k E)
  unfolding zero_transition
  zero-kept zero r s a h p q = (h, p, q)
  zero-kept (suc k) r s a h p q = by-kept (zero_transition k E) (zero-kept k) counter_zero r s a h p q

  pub transition_kept : (event : ℕ) → Again (transition E event)
  transition_kept event r s a h p q = by-kept (zero_transition counter_num E) (zero-kept counter_num) event r s a h p q

  -- ---- the fall of the state limit, and a whole turn
  pub decrement_kept : Again (decrement_limit E)
  unfolding decrement_limit
  decrement_kept r s a h p q =
      let k = C.falls r h in
      either (Stays K) (eqb (r.state_limit - 1) 0 && has_limit (row_of E r)) _ _
      (transition_kept limit_reached (with_state r r.current_state (r.state_limit - 1)) s no_action k C.clears q)
      (k, p, q)

  -- the machine as the event counts it
  pub turn_kept : (kind : ℕ) (falls : Bool) (blocked : ℕ) (r : MachineRuntime) (s : Shared) (a : Option TriggerAction)
      → Machine (counted_by kind blocked r) → Action a → Signal s.signal_pending → Stays K (turn E kind falls blocked r s a)
  unfolding turn
  turn_kept kind falls blocked r s a h p q =
      after (transition E (event_of kind) (counted_by kind blocked r) s a)
      (transition_kept (event_of kind) (counted_by kind blocked r) s a h p q)
    where
      after : (x : Result Step ℕ) → Stays K x → Stays K (after_transition E falls x)
      after (Err n) o = o
      after (Ok d) o =
          either (Stays K) (falls && not d.changed && not (eqb d.runtime.current_state state_end)) _ _
          (decrement_kept d.runtime d.shared d.action o.0 o.1 o.2) o
