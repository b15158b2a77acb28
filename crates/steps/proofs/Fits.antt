-- A framework that fits its tables (18): what that says, part by part; and that an accepted opening and an accepted batch leave one that
-- does, so that a batch which goes on with it is never refused as 18. Assumes nothing.
use Rattle.std.specs.Prelude.{Some}
use Rattle.std.specs.Prelude.{Option}
use Rattle.std.specs.Prelude.{Ok}
use Rattle.std.specs.Prelude.{Result, Err}
use Rattle.steps.specs.declared.Step.{Step}
use Rattle.std.specs.Prelude.{ℕ, zero, suc, ◌+◌, ◌*◌, ◌≤◌, ◌<◌, min, Bool, true, false, cond, ◌&&◌, ◌||◌, List, ◌⊎◌, ◌≡◌, refl, T, Float, length, get_or, replicate}
use Rattle.std.proofs.Common.{lt_irrefl, arith, inl, inr, sym, ap, ◌∙◌, subst, lt→ltb, eq-eqb}
use Rattle.std.proofs.Math.Dec.{ltb, eqb, eqb→eq, ltb→lt}
use Rattle.std.specs.Float.Ieee.Fits.{and_i, and_l, and_r, eq→eqb}
use Rattle.machine.specs.Constants.{machine_max, row_words, state_end}
use Rattle.machine.specs.Event.{signal}
use Rattle.machine.specs.Source.{Source, Telling, tapes}
use Rattle.machine.specs.Words.{words}
use Rattle.machine.specs.declared.source.Place.{Place}
use Rattle.rows.specs.First.{or_else}
use Rattle.tables.specs.Machine.{tables_refusal}
use Rattle.tables.proofs.Valid.Laws.{zero_valid}
use Rattle.steps.specs.Limits.{below_action_limits}
use Rattle.steps.specs.Transition.{no_action, raise, transition}
use Rattle.steps.specs.Events.{Tables, Outcome, stop, go, num_machines, no_runtime, runtime_at, env_of, stored, limit_falls, turn, machine_turn, signal_machine}
use Rattle.steps.specs.declared.Run.{Run}
use Rattle.steps.specs.Framework.{rows_in, states_fit, has_ended, ended_in, fits_tables, events_fit, open_run, open_refusal, opening, trigger_events, batch_refusal, refused, accepted, batch}
use Rattle.steps.specs.Words.{Lent, on_tapes, on_words, outside_refused, batch_on}
use Rattle.steps.specs.Runs.{either, stored_all, OutcomeOk, none_of, opening_ok, batch_ok, event_kept, run_kept}
use Rattle.steps.specs.Draws.{Refuses, by_any, by_told, by_tapes, by_words, Gives}
use Rattle.steps.specs.Walk.{Alive, Closed, row_of}
use Rattle.steps.specs.Machines.{comes_in, opening_kept, Family, member, InRun, batch_kept}
use Rattle.steps.specs.Targets.{Inside, Passed, states_in, some_state, goes_inside, fit_states}
use Rattle.steps.proofs.Refusals.{tables_most, run_stops}
use Rattle.steps.specs.declared.MachineRuntime.{MachineRuntime}
use Rattle.steps.specs.declared.Framework.{Framework}
use Rattle.steps.specs.declared.TriggerAction.{TriggerAction}

-- ---- what 18 asks, part by part
pub record Fits (tables : Tables) (fw : Framework) : Type 0 where
  pub machines : fw.machines ≡ rows_in tables.machines
  pub states : (i : ℕ) → i < rows_in tables.machines → Inside (states_in tables i) (runtime_at fw i)
  pub signal : fw.signal_pending < 2 + rows_in tables.machines
  pub ended : fw.ended ≡ ended_in fw.runtime (rows_in tables.machines)

states_fit_lem : (tables : Tables) (fw : Framework) (n : ℕ)
    → ((i : ℕ) → i < n → Inside (states_in tables i) (runtime_at fw i)) → T (states_fit tables fw n)
unfolding states_fit
states_fit_lem tables fw zero h = tt
states_fit_lem tables fw (suc n) h =
    and_i (states_fit tables fw n) _ (states_fit_lem tables fw n (λ i l. h i (omega arith)))
    (one (runtime_at fw n).current_state (h n (omega arith)))
  where
    one : (s : ℕ) → (s ≡ state_end) ⊎ (s < states_in tables n) → T (eqb s state_end || ltb s (states_in tables n))
    one s (inl e) = subst (λ (b : Bool). T (b || ltb s (states_in tables n))) (sym (eq-eqb s state_end e)) tt
    one s (inr l) = second (eqb s state_end) (ltb s (states_in tables n)) (lt→ltb s (states_in tables n) l)
      where
        second : (a b : Bool) → T b → T (a || b)
        second true b t = tt
        second false b t = t

module _ (tables : Tables) (fw : Framework) where
  pub fits_says : T (fits_tables tables fw) → Fits tables fw
  unfolding fits_tables
  fits_says t =
      let a = eqb fw.machines (rows_in tables.machines) in
      let b = states_fit tables fw (rows_in tables.machines) in
      let c = ltb fw.signal_pending (2 + rows_in tables.machines) in
      let abc = and_l (a && b && c) _ t in
      let ab = and_l (a && b) c abc in
      record {
        machines = eqb→eq _ _ (and_l a b ab);
        states = fit_states tables fw (rows_in tables.machines) (and_r a b ab);
        signal = ltb→lt _ _ (and_r (a && b) c abc);
        ended = eqb→eq _ _ (and_r (a && b && c) _ t);
      }

  pub says_fits : Fits tables fw → T (fits_tables tables fw)
  unfolding fits_tables
  says_fits f =
      let a = eqb fw.machines (rows_in tables.machines) in
      let b = states_fit tables fw (rows_in tables.machines) in
      let c = ltb fw.signal_pending (2 + rows_in tables.machines) in
      and_i (a && b && c) (eqb fw.ended (ended_in fw.runtime (rows_in tables.machines)))
      (and_i (a && b) c
      (and_i a b (eq→eqb f.machines) (states_fit_lem tables fw (rows_in tables.machines) f.states))
      (lt→ltb _ _ f.signal)) (eq→eqb f.ended)

-- ---- a run over tables that passed, from a framework that fits
raised : (pending i n : ℕ) → i < n → raise pending i < 2 + n
unfolding raise
raised pending i n h = either (λ z. z < 2 + n) (eqb pending 0) (2 + i) 1 (omega arith) (omega arith)

-- each machine is in its states, a pending signal leaves out one of them, and the pending actions are such as the schedules give
abbrev pub inside_in : (Option TriggerAction → Type 0) → Tables → Family
inside_in A tables = record {
  RefusedBy = λ n. Unit;
  Machine = λ i. Inside (states_in tables i);
  Action = λ i. A;
  Signal = λ pending. pending < 2 + rows_in tables.machines;
}

pub few : (tables : Tables) → Passed tables → rows_in tables.machines ≤ machine_max
few tables valid = (zero_valid tables.machines tables.states tables.transitions valid).whole.most

module _ (A : Option TriggerAction → Type 0) (tables : Tables) (D : Source Place) (valid : Passed tables) (clears : A no_action)
    (schedules : (fw : Framework) (i : ℕ) → i < rows_in tables.machines → (r : MachineRuntime) (a : TriggerAction)
    → Inside (states_in tables i) r → Alive r
    → below_action_limits (env_of tables D fw i).context r (row_of (env_of tables D fw i) r) ≡ true
    → Gives (row_of (env_of tables D fw i) r) a → A (Some a)) where
  closed : (fw : Framework) (i : ℕ) → i < rows_in tables.machines → Closed (env_of tables D fw i) (member (inside_in A tables) i)
  closed fw i h = record {
    refuses = by_any D;
    enters = λ r next limit v c. inr (goes_inside tables valid i h D fw r next v c);
    ends = λ r v l. inl refl;
    falls = λ r v. v;
    counters = λ r c v. v;
    schedules = schedules fw i h;
    clears = clears;
    raises = λ pending v. raised pending i (rows_in tables.machines) h;
  }

  pub run_inside : (time : ℕ) (es : List ℕ) (fw : Framework) → Fits tables fw
      → OutcomeOk (λ n. Unit) (InRun (inside_in A tables) (rows_in tables.machines)) (trigger_events tables D time es fw)
  run_inside time es fw f =
      batch_kept (inside_in A tables) (rows_in tables.machines) tables D closed (λ i r c v. v) (omega arith) time es fw
      (num fw.machines (rows_in tables.machines) f.machines (few tables valid)) f.states f.signal
    where
      num : (m n : ℕ) → m ≡ n → n ≤ machine_max → min m machine_max ≡ n
      num m n e l = omega arith

-- ---- the machine count stays
stored_machines : (m : ℕ) (x : Run) (i : ℕ) (s : Result Step ℕ) → x.framework.machines ≡ m
    → OutcomeOk (λ n. Unit) (λ y. y.framework.machines ≡ m) (stored x i s)
stored_machines m x i (Err n) e = tt
stored_machines m x i (Ok d) e = e

machines_stay : (tables : Tables) (D : Source Place) (time : ℕ) (es : List ℕ) (fw : Framework)
    → OutcomeOk (λ n. Unit) (λ x. x.framework.machines ≡ fw.machines) (trigger_events tables D time es fw)
unfolding machine_turn signal_machine
machines_stay tables D time es fw =
    run_kept (λ n. Unit) Same tables D (num_machines fw) same (λ x e. e)
    (λ i h x e. stored_machines fw.machines x i
    (transition (env_of tables D x.framework i) signal (runtime_at x.framework i) x.shared (get_or x.actions i no_action)) e)
    (event_kept (λ n. Unit) Same tables D (num_machines fw) same (λ kind x e. e)
    (λ kind machine blocked i h x e. stored_machines fw.machines x i
    (turn (env_of tables D x.framework i) kind (limit_falls kind machine i) blocked (runtime_at x.framework i) x.shared
    (get_or x.actions i no_action)) e)) time es fw refl
  where
    Same : Run → Type 0
    Same x = x.framework.machines ≡ fw.machines

    same : (x : Run) → Same x → num_machines x.framework ≡ num_machines fw
    same x e = ap (λ (m : ℕ). min m machine_max) e

-- ---- THEOREM: an accepted batch leaves a framework that fits the tables lent to it.
ok_both : (P Q : Run → Type 0) (o : Outcome) → OutcomeOk (λ n. Unit) P o → OutcomeOk (λ n. Unit) Q o → OutcomeOk (λ n. Unit) (λ x. P x × Q x) o
ok_both P Q (stop n) p q = tt
ok_both P Q (go x) p q = (p, q)

-- the checks of a batch that runs
pub checked : (fw : Framework) (tables : Tables) (es out : List ℕ) → batch_refusal fw tables es out ≡ 0
    → Passed tables × T (fits_tables tables fw)
unfolding batch_refusal
checked fw tables es out e =
    let p = none_of (tables_refusal tables.machines tables.states tables.transitions) _ e in
    (p.0, by (fits_tables tables fw) _ p.1)
  where
    by : (a : Bool) (n : ℕ) → cond {A = ℕ} a n 18 ≡ 0 → T a
    by true n h = tt
    by false n h = absurd (omega arith)

abbrev Goes : Tables → Framework → Run → Type 0
Goes tables fw x = InRun (inside_in (λ a. Unit) tables) (rows_in tables.machines) x × (x.framework.machines ≡ fw.machines)

pub batch_fits : (fw : Framework) (tables : Tables) (time : ℕ) (es : List ℕ) (D : Source Place) (out : List ℕ)
    → (batch fw tables time es D out).answer.refusal ≡ 0 → T (fits_tables tables (batch fw tables time es D out).answer.framework)
batch_fits fw tables time es D out =
    batch_ok (λ n. Unit) (Goes tables fw) (λ b. b.answer.refusal ≡ 0 → T (fits_tables tables b.answer.framework))
    fw tables time es D out
    (λ e. let c = checked fw tables es out e in
    ok_both _ _ (trigger_events tables D time es fw)
    (run_inside (λ a. Unit) tables D c.0 tt (λ fw' i h r a v l below g. tt) time es fw (fits_says tables fw c.1))
    (machines_stay tables D time es fw))
    (λ e z. absurd (e z)) (λ e n r z. (checked fw tables es out e).1)
    (λ e x g z. says_fits tables (accepted x out).answer.framework (record {
      machines = g.1 ∙ (fits_says tables fw (checked fw tables es out e).1).machines;
      states = g.0.each;
      signal = g.0.signal;
      ended = ap (ended_in x.framework.runtime) g.0.machines;
    }))

-- ---- THEOREM: so does an accepted opening.
-- as each machine comes in: all are in state 0
pub record Fresh (tables : Tables) (x : Run) : Type 0 where
  pub machines : x.framework.machines ≡ rows_in tables.machines
  pub states : (i : ℕ) → (runtime_at x.framework i).current_state ≡ 0
  pub signal : x.framework.signal_pending ≡ 0
  pub ended : x.framework.ended ≡ 0

pub opens_fresh : (R : ℕ → Type 0) (tables : Tables) (padding blocking : Float) (time : ℕ) (D : Source Place) → Refuses R D
    → OutcomeOk R (Fresh tables) (open_run tables padding blocking time D)
opens_fresh R tables padding blocking time D refuses =
    opening_kept R (Fresh tables) tables D refuses comes padding blocking time (record {
      machines = refl;
      states = all_zero machine_max;
      signal = refl;
      ended = refl;
    })
  where
    all_zero : (m i : ℕ) → (get_or (replicate m no_runtime) i no_runtime).current_state ≡ 0
    all_zero zero i = refl
    all_zero (suc m) zero = refl
    all_zero (suc m) (suc i) = all_zero m i

    comes : (i limit : ℕ) (at : Place) (x : Run) → Fresh tables x → OutcomeOk R (Fresh tables) (comes_in tables i limit at x)
    comes i limit at x f = record {
      machines = f.machines;
      states = stored_all (λ r. r.current_state ≡ 0) x.framework.runtime i _ no_runtime refl f.states;
      signal = f.signal;
      ended = f.ended;
    }

-- none of them has ended
pub none_ended : (rs : List MachineRuntime) (n : ℕ) → ((i : ℕ) → (get_or rs i no_runtime).current_state ≡ 0) → ended_in rs n ≡ 0
unfolding ended_in
none_ended rs zero h = refl
none_ended rs (suc n) h =
    let a = none_ended rs n h in
    let b : cond {A = ℕ} (has_ended (get_or rs n no_runtime)) 1 0 ≡ 0 = ap (λ (s : ℕ). cond (eqb s state_end) 1 0) (h n) in
    omega arith

pub opening_fits : (tables : Tables) (padding blocking : Float) (time : ℕ) (D : Source Place) → Telling D
    → (opening tables padding blocking time D).refusal ≡ 0 → T (fits_tables tables (opening tables padding blocking time D).framework)
opening_fits tables padding blocking time D tells =
    opening_ok (λ n. 0 < n) (Fresh tables) (λ o. o.refusal ≡ 0 → T (fits_tables tables o.framework)) tables padding blocking time D
    (λ e. opens_fresh (λ n. 0 < n) tables padding blocking time D (by_told D tells)) (λ e z. absurd (e z))
    (λ e n w z. absurd (lt_irrefl 0 (subst (λ (j : ℕ). 0 < j) z w)))
    (λ e x f z. says_fits tables x.framework (record {
      machines = f.machines;
      states = λ i h. inr (subst (λ (s : ℕ). s < states_in tables i) (sym (f.states i)) (some_state tables (valid e) i h));
      signal = subst (λ (p : ℕ). p < 2 + rows_in tables.machines) (sym f.signal) (omega arith);
      ended = f.ended ∙ sym (none_ended x.framework.runtime (rows_in tables.machines) f.states);
    }))
  where
    valid : open_refusal tables padding blocking ≡ 0 → Passed tables
    valid e = (none_of _ _ e).1

-- ---- THEOREM: a batch on a framework that fits the tables lent to it is not refused as 18, where the source's own numbers are others.
neither : (a b : ℕ) → a ≤ 15 → (b ≡ 18 → ⊥) → or_else a b ≡ 18 → ⊥
unfolding or_else
neither a b h k = either (λ n. n ≡ 18 → ⊥) (eqb a 0) b a k (λ z. omega (arith, z, h))

checks_not_18 : (fw : Framework) (tables : Tables) (es out : List ℕ) → T (fits_tables tables fw) → batch_refusal fw tables es out ≡ 18 → ⊥
unfolding batch_refusal
checks_not_18 fw tables es out fits =
    neither _ _ (tables_most tables.machines tables.states tables.transitions)
    (behind (fits_tables tables fw) (events_fit es) (ltb (length out) (row_words * rows_in tables.machines)) fits)
  where
    behind : (b c d : Bool) → T b → cond {A = ℕ} b (cond c (cond d 20 0) 19) 18 ≡ 18 → ⊥
    behind true true true t z = omega (arith, z)
    behind true true false t z = omega (arith, z)
    behind true false d t z = omega (arith, z)
    behind false c d t z = absurd t

pub never_18 : (fw : Framework) (tables : Tables) (time : ℕ) (es : List ℕ) (D : Source Place) (out : List ℕ)
    → Refuses (λ n. n ≡ 18 → ⊥) D → T (fits_tables tables fw) → (batch fw tables time es D out).answer.refusal ≡ 18 → ⊥
never_18 fw tables time es D out refuses fits =
    batch_ok (λ n. n ≡ 18 → ⊥) (λ x. Unit) (λ b. b.answer.refusal ≡ 18 → ⊥) fw tables time es D out
    (λ e. run_stops (λ n. n ≡ 18 → ⊥) tables D refuses time es fw) (λ e. checks_not_18 fw tables es out fits) (λ e n h. h) (λ e x q z. omega (arith, z))

-- two tapes refuse by 16 and 17
pub never_18_on_tapes : (fw : Framework) (tables : Tables) (time : ℕ) (es : List ℕ) (chances values : List Float) (out : List ℕ)
    → T (fits_tables tables fw) → (batch fw tables time es (tapes chances values) out).answer.refusal ≡ 18 → ⊥
never_18_on_tapes fw tables time es chances values out =
    never_18 fw tables time es (tapes chances values) out
    (by_tapes (λ n. n ≡ 18 → ⊥) (λ z. omega (arith, z)) (λ z. omega (arith, z)) chances values)

-- and a batch on words by 24
pub never_18_on : (fw : Framework) (tables : Tables) (time : ℕ) (es : List ℕ) (lent : Lent) (out : List ℕ)
    → T (fits_tables tables fw) → (batch_on fw tables time es lent out).answer.refusal ≡ 18 → ⊥
unfolding batch_on
never_18_on fw tables time es (on_tapes chances values) out fits = never_18_on_tapes fw tables time es chances values out fits
never_18_on fw tables time es (on_words ws) out fits =
    either (λ b. b.answer.refusal ≡ 18 → ⊥)
    (outside_refused (tables_refusal tables.machines tables.states tables.transitions) tables)
    (refused fw out 24) (batch fw tables time es (words ws) out) (λ z. omega (arith, z))
    (never_18 fw tables time es (words ws) out (by_words (λ n. n ≡ 18 → ⊥) (λ z. omega (arith, z)) ws) fits)
