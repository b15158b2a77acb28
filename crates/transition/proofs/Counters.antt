-- A counter that reports zero uses up its report, so that fewer may follow: what makes the recursion of transition and counter
-- update end. Assumes nothing.
use Rattle.std.specs.Prelude.{Option}
use Rattle.std.specs.Prelude.{Result, Ok, Err}
use Rattle.machine.specs.declared.source.Draw.{Draw}
use Rattle.steps.specs.declared.Counter.{Counter}
use Prim.Native.Nat.{ℕ, zero, suc, ◌+◌, ◌-◌, ◌≤◌, ◌<◌}
use native.Mathlib.Nat.{le_trans, lt_irrefl}
use native.Mathlib.Omega.{arith}
use mathlib.Core.List.{List, [], ◌∷◌}
use mathlib.Core.Bool.{Bool, true, false, cond, not, ◌&&◌, ◌||◌}
use mathlib.Core.Path.{◌≡◌, refl, subst}
use lib.ListN.{get_or}
use lib.Dec.{eqb}
use Rattle.machine.specs.Constants.{counter_a, counter_b}
use Rattle.machine.specs.Event.{counter_zero}
use Rattle.machine.specs.Source.{Values}
use Rattle.machine.specs.declared.source.Place.{Place}
use Rattle.steps.specs.Transition.{Env, with_counters, with_tally, applied, counter_of, changed_by, change_of, update_one, tallied, with_a, with_b, tally_a, tally_b, counter_steps, and_tally, tally_each, untallied, update_counters, unspent, left, after_zero, update_counter, zero_transition, transition_at, update_counter_at}
use Rattle.steps.specs.declared.Counters.{Counters}
use Rattle.steps.specs.declared.MachineRuntime.{MachineRuntime}
use Rattle.steps.specs.declared.Shared.{Shared}
use Rattle.steps.specs.declared.Tally.{Tally}
use Rattle.steps.specs.declared.TriggerAction.{TriggerAction}
use Rattle.steps.specs.declared.Zeroed.{Zeroed}

-- ---- one counter: a report, if there is one, is what was left
abbrev one : Bool → ℕ
one b = cond b 1 0

abbrev Spent : Bool → Result Counter ℕ → Type 0
Spent z (Err n) = Unit
Spent z (Ok c) = unspent c.zeroed + one c.reports ≡ unspent z

made_spent : (p q z : Bool) (value : ℕ) (at : Place) → Spent z (counter_of (not p && q && not z) value z at)
made_spent true q true value at = refl
made_spent true q false value at = refl
made_spent false true true value at = refl
made_spent false true false value at = refl
made_spent false false true value at = refl
made_spent false false false value at = refl

spent : (row : List ℕ) (k : ℕ) (values : Values Place) (at : Place) (old other : ℕ) (z : Bool) →
    Spent z (update_one row k values at old other z)
unfolding update_one
spent row k values at old other z = by-case (eqb (get_or row k 0) 0) (change_of row k values at other)
  where
    by-case : (none : Bool) (d : Result (Draw ℕ) ℕ) → Spent z (cond none (counter_of false old z at) (changed_by (get_or row k 0) old z d))
    by-case true d = made_spent true true z old at
    by-case false (Err n) = tt
    by-case false (Ok w) =
        made_spent (eqb old 0) (eqb (applied (get_or row k 0) old w.value) 0) z (applied (get_or row k 0) old w.value) w.at

-- ---- the counters of a row: what may still be reported, and what is
abbrev weight : Tally → ℕ
weight t = unspent t.zeroed.counter_a + unspent t.zeroed.counter_b + one t.reports

abbrev Lighter : ℕ → Result Tally ℕ → Type 0
Lighter n (Err k) = Unit
Lighter n (Ok t) = weight t ≤ n

one_or : (a b : Bool) → one (a || b) ≤ one a + one b
one_or true b = omega arith
one_or false b = omega arith

a_lighter : (row : List ℕ) (values : Values Place) (old : Counters) (t : Tally) → Lighter (weight t) (tally_a row values old t)
unfolding tally_a
a_lighter row values old t =
    go (update_one row counter_a values t.place old.counter_a old.counter_b t.zeroed.counter_a)
    (spent row counter_a values t.place old.counter_a old.counter_b t.zeroed.counter_a)
  where
    go : (x : Result Counter ℕ) → Spent t.zeroed.counter_a x → Lighter (weight t) (tallied (with_a t) x)
    go (Err n) h = tt
    go (Ok c) h = omega (arith, h, one_or t.reports c.reports)

b_lighter : (row : List ℕ) (values : Values Place) (old : Counters) (t : Tally) → Lighter (weight t) (tally_b row values old t)
unfolding tally_b
b_lighter row values old t =
    go (update_one row counter_b values t.place old.counter_b old.counter_a t.zeroed.counter_b)
    (spent row counter_b values t.place old.counter_b old.counter_a t.zeroed.counter_b)
  where
    go : (x : Result Counter ℕ) → Spent t.zeroed.counter_b x → Lighter (weight t) (tallied (with_b t) x)
    go (Err n) h = tt
    go (Ok c) h = omega (arith, h, one_or t.reports c.reports)

-- each in turn
abbrev AllLighter : List (Tally → Result Tally ℕ) → Type 0
AllLighter [] = Unit
AllLighter (f ∷ fs) = ((t : Tally) → Lighter (weight t) (f t)) × AllLighter fs

each_lighter : (fs : List (Tally → Result Tally ℕ)) → AllLighter fs → (n : ℕ) (t : Tally) → weight t ≤ n → Lighter n (tally_each fs t)
each_lighter [] h n t l = l
each_lighter (f ∷ fs) h n t l = go (f t) (h.0 t) (each_lighter fs h.1 n)
  where
    go : (x : Result Tally ℕ) → Lighter (weight t) x → ((u : Tally) → weight u ≤ n → Lighter n (tally_each fs u)) →
        Lighter n (and_tally x (tally_each fs))
    go (Err k) h rest = tt
    go (Ok u) h rest = rest u (le_trans h l)

counters_lighter : (row : List ℕ) (values : Values Place) (old : Counters) (zeroed : Zeroed) (at : Place) →
    Lighter (unspent zeroed.counter_a + unspent zeroed.counter_b) (update_counters row values old zeroed at)
unfolding update_counters
counters_lighter row values old zeroed at =
    each_lighter (counter_steps row values old) (a_lighter row values old, (b_lighter row values old, tt)) _
    (untallied old zeroed at) (omega arith)

-- ---- where a machine's counters report zero, fewer may still do so
module _ (row : List ℕ) (values : Values Place) (r : MachineRuntime) (s : Shared) (t : Tally)
    (told : update_counters row values r.counters s.zeroed s.place ≡ Ok t) (reports : t.reports ≡ true) where
  pub fewer : left (with_tally s t) < left s
  fewer =
      let l : weight t ≤ left s = subst (Lighter (left s)) told (counters_lighter row values r.counters s.zeroed s.place) in
      let m = subst (λ (b : Bool). unspent t.zeroed.counter_a + unspent t.zeroed.counter_b + one b ≤ left s) reports l in
      omega (arith, m)

  pub one_less : (n : ℕ) → left s ≤ n → left (with_tally s t) ≤ n - 1
  one_less n h = omega (arith, fewer)

-- with any counter left, the CounterZero transition is a transition
zero_is : (n : ℕ) (E : Env) (r : MachineRuntime) (s : Shared) (p : Option TriggerAction) →
    0 < n → zero_transition n E r s p ≡ transition_at (n - 1) E counter_zero r s p
unfolding zero_transition
zero_is zero E r s p h = absurd (lt_irrefl 0 h)
zero_is (suc n) E r s p h = let e : suc n - 1 ≡ n = omega arith in rw e

-- and it is the CounterZero transition
pub on_report : (E : Env) (row : List ℕ) (r : MachineRuntime) (s : Shared) (t : Tally) →
    update_counters row E.source.values r.counters s.zeroed s.place ≡ Ok t → t.reports ≡ true →
    (n : ℕ) → left s ≤ n → (p : Option TriggerAction) →
    update_counter_at n E row r s p
    ≡ after_zero (transition_at (n - 1) E counter_zero (with_counters r t.counters) (with_tally s t) p)
unfolding update_counter
on_report E row r s t told reports n enough p =
    let some = fewer row E.source.values r s t told reports in
    rw (told, reports, zero_is n E _ _ _ (omega (arith, some)))
