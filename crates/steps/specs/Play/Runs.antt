-- A call's run over all machines is a play: an event, the events of a batch, the signals, and the opening. With their costs: a batch
-- of n events over M machines makes at most n × (M + 1) + M attempts and two by CounterZero. Assumes nothing.
use Rattle.machine.specs.Source.{draw_of}
use Rattle.std.specs.Prelude.{Result, Option}
use Rattle.steps.specs.declared.Step.{Step}
use Prim.Native.Nat.{ℕ, zero, suc, ◌+◌, ◌-◌, ◌*◌, ◌/◌, ◌≤◌, ◌<◌}
use Rattle.std.proofs.Common.{arith, true≢false, sym, ap, ◌∙◌}
use Rattle.std.proofs.Math.Decide.{ℕ_discrete}
use Rattle.std.proofs.Math.Bool.{Bool, true, false}
use Rattle.std.specs.Prelude.{cond, not, ◌&&◌, ◌||◌, ◌≡◌, ltb, leb, get_or, set, length}
use mathlib.Core.List.{List}
use Rattle.std.proofs.Math.Path.{refl}
use Rattle.std.proofs.Math.Dec.{eqb}
use borrow.Author.Tests.{ne_eqb, eq-eqb, leb-true, ltb-true, ltb-false, eqb-true}
use Rattle.machine.specs.Constants.{allowed_blocked_microsec}
use Rattle.machine.specs.Event.{event_of, padding_sent, blocking_begin, signal, timer_begin_kind}
use Rattle.machine.specs.Source.{Drawn, no, got, Source}
use Rattle.machine.specs.State.{state_row}
use Rattle.machine.specs.declared.source.Place.{Place}
use Rattle.samples.specs.Action.{action_of, sample_limit}
use Rattle.dists.specs.Dist.{got_whole}
use Rattle.steps.specs.Transition.{no_action}
use Rattle.steps.specs.Events.{Tables, Outcome, stop, go, and_then, each, num_machines, runtime_at, with_runtime, machine_word, context_of, states_of, stored, accounted, blocked_now, limit_falls, machine_turn, first_for, turns_for, own_only, process_event, kind_at, machine_at, event_turn, signal_machine, signal_turn, last_signal, signals}
use Rattle.steps.specs.declared.Run.{Run}
use Rattle.steps.specs.Framework.{none_zeroed, no_actions, with_time, new_runtime, start_limit, opened_with, open_machine, opened, open_turn, kinds_fit}
use Rattle.steps.specs.Play.{Counts, one, RowServed, Plays, plays_end, plays_cond, plays_weaken, plays_on, plays_then}
use Rattle.steps.specs.Play.Samples.{Spent, limit_plays}
use Rattle.steps.specs.Play.Steps.{Flags, shared, Stepping, stepped, Took, Attempt, Ordinary, transition_plays, turn_plays}
use Rattle.steps.specs.declared.MachineRuntime.{MachineRuntime}
use Rattle.steps.specs.declared.Context.{Context}
use Rattle.steps.specs.declared.Framework.{Framework}
use Rattle.steps.specs.declared.TriggerAction.{TriggerAction}

-- ---- a run without its place
pub record Running : Type 0 where
  pub framework : Framework
  pub actions : List (Option TriggerAction)
  pub flags : Flags

abbrev pub run_of : Running → Place → Run
run_of x at = record { framework = x.framework; actions = x.actions; shared = shared x.flags at }

abbrev pub outcome : Drawn Place Running → Outcome
outcome (no r at) = stop r
outcome (got x at) = go (run_of x at)

-- a batch begins
abbrev pub beginning : Framework → ℕ → Running
beginning fw time = record {
  framework = with_time fw time;
  actions = no_actions;
  flags = record { pending = fw.signal_pending; zeroed = none_zeroed };
}

-- M machines, as long as the run goes
abbrev pub Has : ℕ → Running → Type 0
Has M x = num_machines x.framework ≡ M

abbrev pub Costs : ℕ → ℕ → ℕ → Running → Running → Counts → Counts → Type 0
Costs M a g x y k k' = Has M x → Has M y × Took a g x.flags y.flags k k'

-- ---- turns: the sum of what each costs
abbrev total : (ℕ → ℕ) → ℕ → ℕ → ℕ
total c zero j = 0
total c (suc n) j = c j + total c n (j + 1)

module _ (Sound : Type 0) (M : ℕ) where
  -- `May j` is what is known of turn j
  each-plays : (f : Source Place → ℕ → Run → Outcome) (c : ℕ → ℕ) (g : ℕ → ℕ → ℕ) (May : ℕ → Type 0)
      → ((j : ℕ) (x : Running) → Plays Sound outcome (λ i y k k'. May j → Costs M (c j) (g i j) x y k k') (λ D s. f D j (run_of x s)))
      → (n j : ℕ) (x : Running)
      → Plays Sound outcome (λ i y k k'. ((q : ℕ) → q < j + n → May q) → Costs M (total c n j) (total (g i) n j) x y k k')
      (λ D s. each (f D) n j (run_of x s))
  unfolding each
  each-plays f c g May h zero j x =
      plays_end Sound outcome _ _ x (λ D s. refl) (λ i k b m. (m, omega arith))
  each-plays f c g May h (suc n) j x =
      plays_then Sound outcome (λ i y k k'. May j → Costs M (c j) (g i j) x y k k') outcome
      (λ y i z k k'. ((q : ℕ) → q < (j + 1) + n → May q) → Costs M (total c n (j + 1)) (total (g i) n (j + 1)) y z k k') _
      (λ D s. f D j (run_of x s)) (λ D o. and_then o (each (f D) n (j + 1))) (h j x) (λ D n s. refl)
      (each-plays f c g May h n (j + 1))
      (λ i y z k k' k'' p q b m. joined i y z k k' k'' (p (b j (omega arith)) m) (q (λ r l. b r (omega arith))))
    where
      joined : (i : ℕ) (y z : Running) (k k' k'' : Counts) → Has M y × Took (c j) (g i j) x.flags y.flags k k'
          → Costs M (total c n (j + 1)) (total (g i) n (j + 1)) y z k' k''
          → Has M z × Took (c j + total c n (j + 1)) (g i j + total (g i) n (j + 1)) x.flags z.flags k k''
      joined i y z k k' k'' p q = let w = q p.0 in (w.0, omega (arith, p.1, w.1))

  module _ (T : Tables) (served : Sound → (i state : ℕ) → RowServed (state_row (states_of T i) state)) where
    -- ---- one machine
    abbrev context_in : Running → ℕ → Context
    context_in x j =
        context_of T.machines j x.framework.current_time x.framework.fixed x.framework.totals

    abbrev store : Running → ℕ → Stepping → Running
    store x j d = record {
      framework = with_runtime x.framework (set x.framework.runtime j d.runtime);
      actions = set x.actions j d.action;
      flags = d.flags;
    }

    stored-plays : (x : Running) (j : ℕ) (Post : ℕ → Stepping → Counts → Counts → Type 0) (f : Source Place → Place → Result Step ℕ)
        → Plays Sound stepped Post f
        → Plays Sound outcome (λ i y k k'. Has M x → Has M y × ((d : Stepping) × (d.flags ≡ y.flags) × Post i d k k'))
        (λ D s. stored (run_of x s) j (f D s))
    stored-plays x j Post f p =
        plays_on Sound stepped Post outcome (λ d i y k k'. (y ≡ store x j d) × (k ≡ k')) _ f (λ D s. stored (run_of x s) j)
        (λ d D s. go (run_of (store x j d) s)) p (λ D n s₀ s. refl) (λ D d s₀ s. refl)
        (λ d. plays_end Sound outcome _ _ (store x j d) (λ D s. refl) (λ i k. (refl, refl)))
        (λ i d y k k' k'' h m e. rw m.0 (e, (d, refl, rw (sym m.1) h)))

    machine-plays : (kind machine blocked j : ℕ) (x : Running)
        → Plays Sound outcome (λ i y k k'. Ordinary (event_of kind) → Costs M (1 + one (limit_falls kind machine j)) 0 x y k k')
        (λ D s. machine_turn T D kind machine blocked j (run_of x s))
    unfolding machine_turn
    machine-plays kind machine blocked j x =
        plays_weaken Sound outcome _ _ _ (λ i y k k' h o m. told y k k' o (h m))
        (stored-plays x j _ _
        (turn_plays Sound (states_of T j) T.transitions (context_in x j) (λ s. served s j) kind (limit_falls kind machine j) blocked
        (runtime_at x.framework j) x.flags (get_or x.actions j no_action)))
      where
        told : (y : Running) (k k' : Counts) → Ordinary (event_of kind)
            → Has M y × ((d : Stepping) × (d.flags ≡ y.flags)
            × (Ordinary (event_of kind) → Took (1 + one (limit_falls kind machine j)) 0 x.flags d.flags k k'))
            → Has M y × Took (1 + one (limit_falls kind machine j)) 0 x.flags y.flags k k'
        told y k k' o w = (w.0, rw (sym w.1.1) (w.1.2 o))

    -- ---- an event: the limit falls at one machine at the most
    abbrev falls_at : Bool → ℕ → ℕ → ℕ
    falls_at b q j = 1 + one (b && eqb j q)

    apart : (j q : ℕ) (b : Bool) → (j ≡ q → ⊥) → one (b && eqb j q) ≡ 0
    apart j q true e = rw (ne_eqb j q e)
    apart j q false e = refl

    falls-past : (b : Bool) (q n j : ℕ) → q < j → total (falls_at b q) n j ≤ n
    falls-past b q zero j h = omega arith
    falls-past b q (suc n) j h =
        let e = apart j q b (λ (e : j ≡ q). omega arith) in
        let t = falls-past b q n (j + 1) (omega arith) in
        omega (arith, e, t)

    one-le : (b : Bool) → one b ≤ 1
    one-le true = omega arith
    one-le false = omega arith

    falls-once : (b : Bool) (q n j : ℕ) → total (falls_at b q) n j ≤ n + 1
    falls-once b q zero j = omega arith
    falls-once b q (suc n) j = elim (ℕ_discrete j q) [
      | Dec.yes e ↦
          (let t = falls-past b q n (j + 1) (omega (arith, e)) in
          omega (arith, t, one-le (b && eqb j q)))
      | Dec.no e ↦ (let t = falls-once b q n (j + 1) in omega (arith, t, apart j q b e))
    ]

    no_signal : (n j : ℕ) → total (λ j. 0) n j ≡ 0
    no_signal zero j = refl
    no_signal (suc n) j = let t = no_signal n (j + 1) in omega (arith, t)

    turns-few : (kind machine m : ℕ) → turns_for kind machine m ≤ m
    turns-few kind machine m = by (own_only kind) (ltb machine m) (ltb-true machine m)
      where
        by : (a b : Bool) → (b ≡ true → machine < m) → cond a (cond b 1 0) m ≤ m
        by true true h = let w = h refl in omega (arith, w)
        by true false h = omega arith
        by false b h = omega arith

    event-plays : (kind machine : ℕ) (x : Running)
        → Plays Sound outcome (λ i y k k'. Ordinary (event_of kind) → Costs M (M + 1) 0 x y k k')
        (λ D s. process_event T D kind machine (run_of x s))
    unfolding process_event
    event-plays kind machine x =
        plays_weaken Sound outcome _ _ _ (λ i y k k' h o m. told y k k' m (h (λ q l. o) m))
        (each-plays (λ D. machine_turn T D kind machine (blocked_now x.framework)) (falls_at own machine) (λ i j. 0)
        (λ j. Ordinary (event_of kind))
        (machine-plays kind machine (blocked_now x.framework))
        turns (first_for kind machine) start)
      where
        own : Bool
        own = eqb kind padding_sent || eqb kind blocking_begin || eqb kind timer_begin_kind

        turns : ℕ
        turns = turns_for kind machine (num_machines x.framework)

        start : Running
        start = record { framework = accounted kind x.framework; actions = x.actions; flags = x.flags }

        told : (y : Running) (k k' : Counts) → Has M x
            → Has M y × Took (total (falls_at own machine) turns (first_for kind machine)) (total (λ j. 0) turns (first_for kind machine))
            x.flags y.flags k k'
            → Has M y × Took (M + 1) 0 x.flags y.flags k k'
        told y k k' m w = (
          w.0,
          omega (
            arith,
            w.1,
            m,
            turns-few kind machine (num_machines x.framework),
            falls-once own machine turns (first_for kind machine),
            no_signal turns (first_for kind machine),
          ),
        )

    -- ---- the events of a batch: their kinds are fit, so none is CounterZero or Signal
    ordinary : (kind : ℕ) → kind ≤ 9 → Ordinary (event_of kind)
    unfolding event_of
    ordinary kind h = by (ltb kind 8) (ltb-true kind 8) (ltb-false kind 8)
      where
        by : (b : Bool) → (b ≡ true → kind < 8) → (b ≡ false → 8 ≤ kind)
            → Ordinary (cond b kind (kind + 2))
        by true p q =
            let w = p refl in
            (ne_eqb kind 9 (λ e. omega (arith, w, e)), ne_eqb kind 12 (λ e. omega (arith, w, e)))
        by false p q =
            let w = q refl in
            (ne_eqb (kind + 2) 9 (λ e. omega (arith, w, e)), ne_eqb (kind + 2) 12 (λ e. omega (arith, w, e)))

    kinds_fit_lem : (es : List ℕ) (n : ℕ) → kinds_fit es n ≡ true → (j : ℕ) → j < n → kind_at es j ≤ 9
    unfolding kinds_fit
    kinds_fit_lem es zero h j l = absurd (omega arith)
    kinds_fit_lem es (suc n) h j l = by (kinds_fit es n) (leb (kind_at es n) 9) h (kinds_fit_lem es n) (leb-true (kind_at es n) 9)
      where
        by : (a b : Bool) → (a && b) ≡ true → (a ≡ true → (j : ℕ) → j < n → kind_at es j ≤ 9)
            → (b ≡ true → kind_at es n ≤ 9) → kind_at es j ≤ 9
        by true true h p q = elim (ℕ_discrete j n) [
          | Dec.yes e ↦ rw e (q refl)
          | Dec.no e ↦ p refl j (omega (arith, l, e))
        ]
        by true false h p q = absurd (true≢false (sym h))
        by false b h p q = absurd (true≢false (sym h))

    many : (n j : ℕ) → total (λ j. M + 1) n j ≡ n * (M + 1)
    many zero j = omega arith
    many (suc n) j = let t = many n (j + 1) in omega (arith, t)

    events-plays : (es : List ℕ) (x : Running)
        → Plays Sound outcome (λ i y k k'. kinds_fit es (length es / 2) ≡ true → Costs M (length es / 2 * (M + 1)) 0 x y k k')
        (λ D s. each (event_turn T D es) (length es / 2) 0 (run_of x s))
    events-plays es x =
        plays_weaken Sound outcome _ _ _
        (λ i y k k' h o m. told y k k' (h (λ q l. ordinary (kind_at es q) (kinds_fit_lem es (length es / 2) o q (omega (arith, l)))) m))
        (each-plays (λ D. event_turn T D es) (λ j. M + 1) (λ i j. 0) (λ j. Ordinary (event_of (kind_at es j)))
        (λ j y. event-plays (kind_at es j) (machine_at es j) y)
        (length es / 2) 0 x)
      where
        told : (y : Running) (k k' : Counts)
            → Has M y × Took (total (λ j. M + 1) (length es / 2) 0) (total (λ j. 0) (length es / 2) 0) x.flags y.flags k k'
            → Has M y × Took (length es / 2 * (M + 1)) 0 x.flags y.flags k k'
        told y k k' w = (w.0, omega (arith, w.1, many (length es / 2) 0, no_signal (length es / 2) 0))

    -- ---- signals: a round leaves one machine out, and that one is signalled last
    signal-plays : (j : ℕ) (x : Running)
        → Plays Sound outcome (λ i. Costs M 1 (one (eqb j i)) x) (λ D s. signal_machine T D j (run_of x s))
    unfolding signal_machine
    signal-plays j x =
        plays_weaken Sound outcome _ _ _ (λ i y k k' h m. told i y k k' (h m))
        (stored-plays x j _ _
        (transition_plays Sound (states_of T j) T.transitions (context_in x j) (λ s. served s j) signal
        (runtime_at x.framework j) x.flags (get_or x.actions j no_action)))
      where
        told : (i : ℕ) (y : Running) (k k' : Counts)
            → Has M y × ((d : Stepping) × (d.flags ≡ y.flags) × Attempt i signal j x.flags d.flags k k')
            → Has M y × Took 1 (one (eqb j i)) x.flags y.flags k k'
        told i y k k' w = (w.0, rw (sym w.1.1) (let h = w.1.2 in omega (arith, h)))

    abbrev quiet : Running → Running
    quiet x = record {
      framework = x.framework;
      actions = x.actions;
      flags = record { pending = 0; zeroed = x.flags.zeroed };
    }

    module _ (pending : ℕ) where
      abbrev heard : ℕ → ℕ
      heard j = one (not (eqb pending (2 + j)))

      abbrev heard_at : ℕ → ℕ → ℕ
      heard_at i j = one (not (eqb pending (2 + j)) && eqb j i)

      within : ℕ → Bool
      within m = leb 2 pending && ltb pending (2 + m)

      turn-signal-plays : (j : ℕ) (x : Running)
          → Plays Sound outcome (λ i y k k'. Unit → Costs M (heard j) (heard_at i j) x y k k') (λ D s. signal_turn T D pending j (run_of x s))
      turn-signal-plays j x = by (eqb pending (2 + j))
        where
          by : (b : Bool) → Plays Sound outcome (λ i y k k'. Unit → Costs M (one (not b)) (one (not b && eqb j i)) x y k k')
              (λ D s. cond b (go (run_of x s)) (signal_machine T D j (run_of x s)))
          by true = plays_end Sound outcome _ _ x (λ D s. refl) (λ i k u m. (m, omega arith))
          by false = plays_weaken Sound outcome _ _ _ (λ i y k k' h u m. h m) (signal-plays j x)

      last-plays : (x : Running)
          → Plays Sound outcome (λ i. Costs M (one (within M)) (one (within M && eqb (pending - 2) i)) x)
          (λ D s. last_signal T D pending (run_of x s))
      unfolding within
      last-plays x =
          plays_cond Sound outcome _ _ _ (eqb x.flags.pending 0)
          (λ e. plays_end Sound outcome _ _ x (λ D s. refl) (λ i k m. (m, omega arith)))
          (λ e. by (within (num_machines x.framework)) refl)
        where
          told : (b : Bool) → within (num_machines x.framework) ≡ b → Has M x → within M ≡ b
          told b e m = rw (sym m) e

          by : (b : Bool) → within (num_machines x.framework) ≡ b
              → Plays Sound outcome (λ i. Costs M (one (within M)) (one (within M && eqb (pending - 2) i)) x)
              (λ D s. cond b (signal_machine T D (pending - 2) (run_of (quiet x) s)) (go (run_of (quiet x) s)))
          by true e =
              plays_weaken Sound outcome _ _ _ (λ i y k k' h m. rw (told true e m) (h m)) (signal-plays (pending - 2) (quiet x))
          by false e =
              plays_end Sound outcome _ _ (quiet x) (λ D s. refl) (λ i k m. (m, omega arith))

      -- what a round costs
      heard-le : (n j : ℕ) → total heard n j ≤ n
      heard-le zero j = omega arith
      heard-le (suc n) j = let t = heard-le n (j + 1) in omega (arith, t, one-le (not (eqb pending (2 + j))))

      one_out : (n j : ℕ) → 2 + j ≤ pending → pending < 2 + j + n → total heard n j + 1 ≤ n
      one_out zero j a b = absurd (omega (arith, a, b))
      one_out (suc n) j a b = elim (ℕ_discrete pending (2 + j)) [
        | Dec.yes e ↦
            (let t = heard-le n (j + 1) in
            let z = skipped e in
            omega (arith, t, z))
        | Dec.no e ↦
            (let t = one_out n (j + 1) (omega (arith, a, b, e)) (omega (arith, a, b, e)) in
            omega (arith, t, one-le (not (eqb pending (2 + j)))))
      ]
        where
          skipped : pending ≡ 2 + j → heard j ≡ 0
          skipped e = rw (eq-eqb pending (2 + j) e)

      elsewhere : (i : ℕ) (j : ℕ) → (j ≡ i → ⊥) → heard_at i j ≡ 0
      elsewhere i j e = by (not (eqb pending (2 + j))) (eqb j i) (ne_eqb j i e)
        where
          by : (a b : Bool) → b ≡ false → one (a && b) ≡ 0
          by true b e = rw e
          by false b e = refl

      past-me : (i : ℕ) (n j : ℕ) → i < j → total (heard_at i) n j ≡ 0
      past-me i zero j h = refl
      past-me i (suc n) j h =
          let t = past-me i n (j + 1) (omega (arith, h)) in
          let z = elsewhere i j (λ (e : j ≡ i). omega (arith, h, e)) in
          omega (arith, t, z)

      at_most : (i : ℕ) (n j : ℕ) → total (heard_at i) n j ≤ 1
      at_most i zero j = omega arith
      at_most i (suc n) j = elim (ℕ_discrete j i) [
        | Dec.yes e ↦
            (let t = past-me i n (j + 1) (omega (arith, e)) in
            omega (arith, t, one-le (not (eqb pending (2 + j)) && eqb j i)))
        | Dec.no e ↦ (let t = at_most i n (j + 1) in omega (arith, t, elsewhere i j e))
      ]

      left_out : (i : ℕ) → pending ≡ 2 + i → (n j : ℕ) → total (heard_at i) n j ≡ 0
      left_out i p zero j = refl
      left_out i p (suc n) j = elim (ℕ_discrete j i) [
        | Dec.yes e ↦ (let t = left_out i p n (j + 1) in let z = silent e in omega (arith, t, z))
        | Dec.no e ↦ (let t = left_out i p n (j + 1) in omega (arith, t, elsewhere i j e))
      ]
        where
          silent : j ≡ i → heard_at i j ≡ 0
          silent e = rw (eq-eqb pending (2 + j) (p ∙ ap (λ (z : ℕ). 2 + z) (sym e)))

      round : (i : ℕ) → (total heard M 0 + one (within M) ≤ M) × (total (heard_at i) M 0 + one (within M && eqb (pending - 2) i) ≤ 1)
      unfolding within
      round i = by (leb 2 pending) (ltb pending (2 + M)) (leb-true 2 pending) (ltb-true pending (2 + M))
        where
          me : (b : Bool) → 2 ≤ pending → (b ≡ true → pending - 2 ≡ i) → total (heard_at i) M 0 + one b ≤ 1
          me true a h =
              let w = h refl in
              let z = left_out i (omega (arith, a, w)) M 0 in
              omega (arith, z)
          me false a h = let z = at_most i M 0 in omega (arith, z)

          by : (a b : Bool) → (a ≡ true → 2 ≤ pending) → (b ≡ true → pending < 2 + M)
              → (total heard M 0 + one (a && b) ≤ M) × (total (heard_at i) M 0 + one (a && b && eqb (pending - 2) i) ≤ 1)
          by true true p q =
              let a = p refl in
              let b = q refl in
              (one_out M 0 (omega (arith, a)) (omega (arith, b)), me (eqb (pending - 2) i) a (eqb-true (pending - 2) i))
          by true false p q = let z = heard-le M 0 in let w = at_most i M 0 in (omega (arith, z), omega (arith, w))
          by false b p q = let z = heard-le M 0 in let w = at_most i M 0 in (omega (arith, z), omega (arith, w))

    signals-plays : (x : Running) → Plays Sound outcome (λ i. Costs M M 1 x) (λ D s. signals T D (run_of x s))
    unfolding signals
    signals-plays x =
        plays_cond Sound outcome _ _ _ (eqb x.flags.pending 0)
        (λ e. plays_end Sound outcome _ _ x (λ D s. refl) (λ i k m. (m, omega arith)))
        (λ e. plays_then Sound outcome
        (λ i y k k'. ((q : ℕ) → q < 0 + n → Unit) → Costs M (total (heard p) n 0) (total (heard_at p i) n 0) (quiet x) y k k') outcome
        (λ y i z. Costs M (one (within p M)) (one (within p M && eqb (p - 2) i)) y z) (λ i. Costs M M 1 x)
        (λ D s. each (signal_turn T D p) n 0 (run_of (quiet x) s)) (λ D o. and_then o (last_signal T D p))
        (each-plays (λ D. signal_turn T D p) (heard p) (heard_at p) (λ j. Unit) (turn-signal-plays p) n 0 (quiet x))
        (λ D n s. refl) (last-plays p)
        (λ i y z k k' k'' h h' m. told i y z k k' k'' m (h (λ q l. tt) m) h'))
      where
        p : ℕ
        p = x.flags.pending

        n : ℕ
        n = num_machines x.framework

        told : (i : ℕ) (y z : Running) (k k' k'' : Counts) → n ≡ M
            → Has M y × Took (total (heard p) n 0) (total (heard_at p i) n 0) (quiet x).flags y.flags k k'
            → Costs M (one (within p M)) (one (within p M && eqb (p - 2) i)) y z k' k''
            → Has M z × Took M 1 x.flags z.flags k k''
        told i y z k k' k'' m a b =
            let w = b a.0 in
            let t = took (rw m at a.1) in
            let r = round p i in
            (w.0, omega (arith, t, w.1, r))
          where
            took : Took (total (heard p) M 0) (total (heard_at p i) M 0) (quiet x).flags y.flags k k'
                → Took (total (heard p) M 0) (total (heard_at p i) M 0) x.flags y.flags k k'
            took h = h

    -- ---- the batch
    pub batch_plays : (es : List ℕ) (x : Running)
        → Plays Sound outcome
        (λ i y k k'. kinds_fit es (length es / 2) ≡ true → Costs M (length es / 2 * (M + 1) + M) 1 x y k k')
        (λ D s. and_then (each (event_turn T D es) (length es / 2) 0 (run_of x s)) (signals T D))
    batch_plays es x =
        plays_then Sound outcome _ outcome (λ y i. Costs M M 1 y) _
        (λ D s. each (event_turn T D es) (length es / 2) 0 (run_of x s)) (λ D o. and_then o (signals T D))
        (events-plays es x) (λ D n s. refl) signals-plays
        (λ i y z k k' k'' h h' o m. let a = h o m in let b = h' a.0 in (b.0, omega (arith, a.1, b.1)))

-- ---- the opening: a value for each machine at the most
module _ (Sound : Type 0) (T : Tables) (served : Sound → (i state : ℕ) → RowServed (state_row (states_of T i) state)) where
  open-machine-plays : (j time : ℕ) → Plays Sound draw_of (λ i r. Spent 1) (λ D s. open_machine T D.values j time s)
  unfolding open_machine start_limit
  open-machine-plays j time = by (eqb (action_of row) 0)
    where
      row : List ℕ
      row = state_row (states_of T j) 0

      allowed : ℕ
      allowed = machine_word T.machines j allowed_blocked_microsec

      by : (b : Bool) → Plays Sound draw_of (λ i r. Spent 1)
          (λ D s. opened_with time allowed (cond b (got_whole 0 s) (sample_limit row D.values s)))
      by true = plays_end Sound draw_of _ _ (new_runtime time allowed 0) (λ D s. refl) (λ i k. omega arith)
      by false =
          plays_then Sound draw_of (λ i a. Spent 1) draw_of (λ a i r. Spent 0) _
          (λ D s. sample_limit row D.values s) (λ D. opened_with time allowed)
          (limit_plays Sound row (λ s. served s j 0)) (λ D n s. refl)
          (λ a. plays_end Sound draw_of _ _ (new_runtime time allowed a) (λ D s. refl) (λ i k. omega arith))
          (λ i a r k k' k'' h m. omega (arith, h, m))

  open-turn-plays : (j : ℕ) (x : Running)
      → Plays Sound outcome (λ i y k k'. k'.values ≤ k.values + 1) (λ D s. open_turn T D j (run_of x s))
  open-turn-plays j x =
      plays_on Sound draw_of (λ i r. Spent 1) outcome (λ r i y. Spent 0) _
      (λ D s. open_machine T D.values j x.framework.current_time s)
      (λ D s. opened j (run_of x s)) (λ r D s. go (run_of (with r) s))
      (open-machine-plays j x.framework.current_time) (λ D n s₀ s. refl) (λ D r s₀ s. refl)
      (λ r. plays_end Sound outcome _ _ (with r) (λ D s. refl) (λ i k. omega arith))
      (λ i r y k k' k'' h m. omega (arith, h, m))
    where
      with : MachineRuntime → Running
      with r = record {
        framework = with_runtime x.framework (set x.framework.runtime j r);
        actions = x.actions;
        flags = x.flags;
      }

  pub open_plays : (n j : ℕ) (x : Running)
      → Plays Sound outcome (λ i y k k'. k'.values ≤ k.values + n) (λ D s. each (open_turn T D) n j (run_of x s))
  unfolding each
  open_plays zero j x = plays_end Sound outcome _ _ x (λ D s. refl) (λ i k. omega arith)
  open_plays (suc n) j x =
      plays_then Sound outcome _ outcome (λ y i z k k'. k'.values ≤ k.values + n) _
      (λ D s. open_turn T D j (run_of x s)) (λ D o. and_then o (each (open_turn T D) n (j + 1))) (open-turn-plays j x)
      (λ D n s. refl) (open_plays n (j + 1)) (λ i y z k k' k'' h m. omega (arith, h, m))
