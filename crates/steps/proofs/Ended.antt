-- The ended number: every call leaves the right one, so that no batch after it is refused for it, and by it all_machines_ended answers what
-- a look at every machine would. Assumes nothing.
use Rattle.std.specs.Prelude.{ℕ, zero, suc, ◌+◌, ◌≤◌, ◌<◌, min, Bool, true, false, cond, ◌&&◌, List, [], ◌∷◌, ◌≡◌, refl, T, eqb, Float, get_or}
use Rattle.std.proofs.Common.{lt_irrefl, arith, sym, ap, ◌∙◌, subst, eqb-true, eq-eqb, ne_eqb}
use Rattle.std.proofs.lemmas.Bool.{eqb-false}
use Rattle.machine.specs.Constants.{machine_max}
use Rattle.machine.specs.Source.{Source, Telling}
use Rattle.machine.specs.declared.source.Place.{Place}
use Rattle.steps.specs.Events.{Tables, num_machines, no_runtime, runtime_at}
use Rattle.steps.specs.Framework.{has_ended, ended_in, fits_tables, opening, trigger_events, batch, all_machines_ended}
use Rattle.steps.specs.Words.{Lent, source_of, lent_tells, opening_on, batch_on}
use Rattle.steps.specs.Runs.{ok_any, opening_ok, batch_ok}
use Rattle.steps.specs.Draws.{by_any, by_told}
use Rattle.steps.specs.Targets.{Passed}
use Rattle.steps.proofs.Refusals.{run_stops}
use Rattle.steps.proofs.Fits.{fits_says, few, batch_fits, Fresh, opens_fresh, none_ended, opening_fits, never_18_on}
use Rattle.steps.specs.Budget.{Call, refusal_of, framework_of}
use Rattle.steps.proofs.Budget.Kinds.{opening_on_lem, accepted_opening, batch_on_lem, accepted_batch, refused_batch}
use Rattle.steps.specs.declared.MachineRuntime.{MachineRuntime}
use Rattle.steps.specs.declared.Framework.{Framework}

-- the number is that of the machines in STATE_END
abbrev pub Right : Framework → Type 0
Right fw = fw.ended ≡ ended_in fw.runtime (num_machines fw)

-- ---- an opening: none has ended. A refused one has no machines.
pub opening_right : (tables : Tables) (padding blocking : Float) (time : ℕ) (D : Source Place)
    → Right (opening tables padding blocking time D).framework
unfolding ended_in
opening_right tables padding blocking time D =
    opening_ok (λ n. Unit) (Fresh tables) (λ o. Right o.framework) tables padding blocking time D
    (λ e. opens_fresh (λ n. Unit) tables padding blocking time D (by_any D)) (λ e. refl) (λ e n r. refl)
    (λ e x f. f.ended ∙ sym (none_ended x.framework.runtime (num_machines x.framework) f.states))

-- ---- a batch: an accepted one counts, whatever the number was; a refused one leaves it
pub accepted_right : (fw : Framework) (tables : Tables) (time : ℕ) (es : List ℕ) (D : Source Place) (out : List ℕ) → Telling D
    → (batch fw tables time es D out).answer.refusal ≡ 0 → Right (batch fw tables time es D out).answer.framework
accepted_right fw tables time es D out tells =
    batch_ok (λ n. 0 < n) (λ x. Unit) (λ b. b.answer.refusal ≡ 0 → Right b.answer.framework) fw tables time es D out
    (λ e. run_stops (λ n. 0 < n) tables D (by_told D tells) time es fw) (λ e z. absurd (e z))
    (λ e n w z. absurd (lt_irrefl 0 (subst (λ (j : ℕ). 0 < j) z w))) (λ e x q z. refl)

pub batch_right : (fw : Framework) (tables : Tables) (time : ℕ) (es : List ℕ) (D : Source Place) (out : List ℕ) → Right fw
    → Right (batch fw tables time es D out).answer.framework
batch_right fw tables time es D out h =
    batch_ok (λ n. Unit) (λ x. Unit) (λ b. Right b.answer.framework) fw tables time es D out
    (λ e. ok_any (trigger_events tables D time es fw)) (λ e. h) (λ e n r. h) (λ e x q. refl)

-- ---- THEOREM: the number is right after any opening and any list of batches, refused ones too, whatever they are lent. Each draws from two
-- tapes or from words.
-- each batch gets the framework that the last one returned
abbrev pub after : Framework → List Call → Framework
after x [] = x
after x (c ∷ cs) = after (framework_of x c) cs

pub ended_is_right : (tables : Tables) (padding blocking : Float) (time : ℕ) (lent : Lent) (cs : List Call)
    → Right (after (opening_on tables padding blocking time lent).framework cs)
unfolding ended_in
ended_is_right tables padding blocking time lent cs =
    list (opening_on tables padding blocking time lent).framework cs
    (opening_on_lem (λ o. Right o.framework) tables padding blocking time lent refl
    (opening_right tables padding blocking time (source_of lent)))
  where
    list : (x : Framework) (cs : List Call) → Right x → Right (after x cs)
    list x [] h = h
    list x (c ∷ cs) h =
        list (framework_of x c) cs
        (batch_on_lem (λ b. Right b.answer.framework) x c.tables c.time c.events c.lent c.out h
        (batch_right x c.tables c.time c.events (source_of c.lent) c.out h))

-- ---- THEOREM: after an accepted opening and any list of batches, refused ones too, of which the accepted ones were lent the opening's
-- tables, a batch that is lent these is not refused as 18. Each draws from two tapes or from words.
abbrev pub LentSame : Tables → Framework → List Call → Type 0
LentSame tables x [] = Unit
LentSame tables x (c ∷ cs) = (refusal_of x c ≡ 0 → c.tables ≡ tables) × LentSame tables (framework_of x c) cs

next_fits : (tables : Tables) (x : Framework) (c : Call) → T (fits_tables tables x) → (refusal_of x c ≡ 0 → c.tables ≡ tables)
    → T (fits_tables tables (framework_of x c))
next_fits tables x c fits same = by (eqb (refusal_of x c) 0) refl
  where
    by : (b : Bool) → eqb (refusal_of x c) 0 ≡ b → T (fits_tables tables (framework_of x c))
    by true e =
        let z = eqb-true (refusal_of x c) 0 e in
        subst (λ (t : Tables). T (fits_tables t (framework_of x c))) (same z)
        (accepted_batch (λ b. T (fits_tables c.tables b.answer.framework)) x c.tables c.time c.events c.lent c.out
        (batch_fits x c.tables c.time c.events (source_of c.lent) c.out) z)
    by false e =
        subst (λ (y : Framework). T (fits_tables tables y))
        (sym (refused_batch x c.tables c.time c.events c.lent c.out (eqb-false (refusal_of x c) 0 e))) fits

after_fits : (tables : Tables) (x : Framework) (cs : List Call) → T (fits_tables tables x) → LentSame tables x cs
    → T (fits_tables tables (after x cs))
after_fits tables x [] fits same = fits
after_fits tables x (c ∷ cs) fits same = after_fits tables (framework_of x c) cs (next_fits tables x c fits same.0) same.1

pub never_18_after : (tables : Tables) (padding blocking : Float) (opened : ℕ) (first : Lent)
    → (opening_on tables padding blocking opened first).refusal ≡ 0
    → (cs : List Call) → LentSame tables (opening_on tables padding blocking opened first).framework cs
    → (time : ℕ) (es : List ℕ) (lent : Lent) (out : List ℕ)
    → (batch_on (after (opening_on tables padding blocking opened first).framework cs) tables time es lent out).answer.refusal ≡ 18
    → ⊥
never_18_after tables padding blocking opened first e cs same time es lent out =
    let x = (opening_on tables padding blocking opened first).framework in
    never_18_on (after x cs) tables time es lent out
    (after_fits tables x cs
    (accepted_opening (λ o. T (fits_tables tables o.framework)) tables padding blocking opened first
    (opening_fits tables padding blocking opened (source_of first) (lent_tells first)) e) same)

-- ---- THEOREM: where the number is right, all_machines_ended is true exactly where every machine is in STATE_END; so it is of every framework
-- that fits tables that passed.
abbrev pub every_ended : Framework → ℕ → Bool
every_ended fw zero = true
every_ended fw (suc n) = every_ended fw n && has_ended (runtime_at fw n)

pub ended_most : (rs : List MachineRuntime) (n : ℕ) → ended_in rs n ≤ n
unfolding ended_in
ended_most rs zero = omega arith
ended_most rs (suc n) = by (has_ended (get_or rs n no_runtime)) (ended_most rs n)
  where
    by : (b : Bool) → ended_in rs n ≤ n → ended_in rs n + cond b 1 0 ≤ suc n
    by true h = omega arith
    by false h = omega arith

all_counted : (fw : Framework) (n : ℕ) → eqb (ended_in fw.runtime n) n ≡ every_ended fw n
unfolding ended_in
all_counted fw zero = refl
all_counted fw (suc n) =
    by (has_ended (runtime_at fw n)) (ended_in fw.runtime n) (every_ended fw n) (ended_most fw.runtime n) (all_counted fw n)
  where
    by : (b : Bool) (k : ℕ) (every : Bool) → k ≤ n → eqb k n ≡ every → eqb (k + cond b 1 0) (suc n) ≡ every && b
    by true k true h e = eq-eqb (k + 1) (suc n) (let z = eqb-true k n e in omega arith)
    by true k false h e = ne_eqb (k + 1) (suc n) (λ z. eqb-false k n e (omega arith))
    by false k true h e = ne_eqb (k + 0) (suc n) (λ z. omega arith)
    by false k false h e = ne_eqb (k + 0) (suc n) (λ z. omega arith)

pub all_ended_is : (fw : Framework) → Right fw → all_machines_ended fw ≡ every_ended fw (num_machines fw)
unfolding all_machines_ended
all_ended_is fw right = ap (λ (n : ℕ). eqb n (num_machines fw)) right ∙ all_counted fw (num_machines fw)

pub all_ended_fits : (tables : Tables) (fw : Framework) → Passed tables → T (fits_tables tables fw)
    → all_machines_ended fw ≡ every_ended fw (num_machines fw)
all_ended_fits tables fw valid fits =
    let f = fits_says tables fw fits in
    all_ended_is fw (f.ended ∙ ap (ended_in fw.runtime) (num fw.machines _ f.machines (few tables valid)))
  where
    num : (m n : ℕ) → m ≡ n → n ≤ machine_max → n ≡ min m machine_max
    num m n e l = omega arith
