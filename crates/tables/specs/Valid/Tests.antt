-- Each test of the definitions says what `Valid` says in plain words, both ways. Assumes nothing.
use Prim.Native.Nat.{ℕ, zero, suc, ◌+◌, ◌-◌, ◌≤◌, ◌<◌}
use Rattle.std.proofs.Common.{eq-or-lt_of_le, sym, ◌∙◌, subst, true≢false}
use native.Mathlib.Omega.{arith}
use Rattle.std.specs.Prelude.{◌≡◌, refl, List, Bool, true, false, ◌||◌, ◌⊎◌, ltb, Float}
use Rattle.std.proofs.lemmas.Bool.{false≢true}
use Rattle.std.proofs.Math.Bool.{or-true}
use Rattle.std.proofs.Math.Logic.{inl, inr, ⊎_elim}
use Rattle.std.proofs.Math.Dec.{eqb}
use borrow.Author.Tests.{ltb-true, lt-ltb, eqb-true, eqb-false, eq-eqb}
use Rattle.machine.specs.Constants.{state_end, state_signal}
use Rattle.machine.specs.State.{target_at}
use Rattle.rows.specs.Row.{is_target, improbable, seen_in, seen_before}
use Rattle.tables.specs.Machine.{beyond_fraction}
use Rattle.tables.specs.Valid.{Fraction, Probability, Target, Seen}

-- ---- Bools
pub clash : {b : Bool} → b ≡ true → b ≡ false → ⊥
clash p q = true≢false (sym p ∙ q)

pub or_none : (a b : Bool) → a || b ≡ false → (a ≡ false) × (b ≡ false)
or_none true b e = absurd (true≢false e)
or_none false b e = (refl, e)

pub none_or : {a b : Bool} → a ≡ false → b ≡ false → a || b ≡ false
none_or p q = rw (p, q)

pub or_some : (a b : Bool) → a || b ≡ true → (a ≡ true) ⊎ (b ≡ true)
or_some true b e = inl refl
or_some false b e = inr e

-- ---- floats
module _ (x : Float) where
  pub fraction : beyond_fraction x ≡ false → Fraction x
  unfolding beyond_fraction
  fraction e = or_none _ _ e

  pub no_fraction : beyond_fraction x ≡ true → Fraction x → ⊥
  unfolding beyond_fraction
  no_fraction e f = clash e (none_or f.0 f.1)

  pub of_fraction : Fraction x → beyond_fraction x ≡ false
  unfolding beyond_fraction
  of_fraction f = none_or f.0 f.1

  pub probability : improbable x ≡ false → Probability x
  unfolding improbable
  probability e = or_none _ _ e

  pub no_probability : improbable x ≡ true → Probability x → ⊥
  unfolding improbable
  no_probability e f = clash e (none_or f.0 f.1)

  pub of_probability : Probability x → improbable x ≡ false
  unfolding improbable
  of_probability f = none_or f.0 f.1

-- ---- targets
module _ (n t : ℕ) where
  pub target : is_target n t ≡ true → Target n t
  unfolding is_target
  target e =
      ⊎_elim
      (λ p. ⊎_elim (λ q. inl (ltb-true t n q)) (λ q. inr (inl (eqb-true t state_end q))) (or_some (ltb t n) (eqb t state_end) p))
      (λ p. inr (inr (eqb-true t state_signal p)))
      (or_some (ltb t n || eqb t state_end) (eqb t state_signal) e)

  pub of_target : Target n t → is_target n t ≡ true
  unfolding is_target
  of_target (inl h) = rw (lt-ltb t n h)
  of_target (inr (inl h)) = rw (eq-eqb t state_end h, or-true (ltb t n))
  of_target (inr (inr h)) = rw (eq-eqb t state_signal h) (or-true (ltb t n || eqb t state_end))

-- ---- targets seen before
module _ (ts : List ℕ) (t : ℕ) where
  unseen-in : (k j l : ℕ) → seen_in ts t k j ≡ false → j ≤ l → l < j + k → target_at ts l ≡ t → ⊥
  unfolding seen_in
  unseen-in zero j l e h g s = omega arith
  unseen-in (suc k) j l e h g s =
      let p = or_none (eqb (target_at ts j) t) (seen_in ts t k (j + 1)) e in
      ⊎_elim (λ q. eqb-false (target_at ts j) t p.0 (subst (λ (m : ℕ). target_at ts m ≡ t) (sym q) s))
      (λ q. unseen-in k (j + 1) l p.1 (omega arith) (omega arith) s) (eq-or-lt_of_le h)

  seen-in : (k j : ℕ) → seen_in ts t k j ≡ true → (l : ℕ) × ((j ≤ l) × ((l < j + k) × (target_at ts l ≡ t)))
  unfolding seen_in
  seen-in zero j e = absurd (false≢true e)
  seen-in (suc k) j e =
      ⊎_elim (λ p. (j, (omega arith, (omega arith, eqb-true (target_at ts j) t p))))
      (λ p. let s = seen-in k (j + 1) p in (s.0, (omega (arith, s.1.0), (omega (arith, s.1.1.0), s.1.1.1))))
      (or_some (eqb (target_at ts j) t) (seen_in ts t k (j + 1)) e)

module _ (ts : List ℕ) (first i : ℕ) (from : first ≤ i) where
  pub unseen : seen_before ts first i ≡ false → Seen ts first i → ⊥
  unseen e s = unseen-in ts (target_at ts i) (i - first) first s.earlier e s.within (omega (arith, s.before)) s.same

  pub seen : seen_before ts first i ≡ true → Seen ts first i
  seen e =
      let s = seen-in ts (target_at ts i) (i - first) first e in
      record { earlier = s.0; within = s.1.0; before = omega (arith, s.1.1.0); same = s.1.1.1 }

  pub of_unseen : (Seen ts first i → ⊥) → seen_before ts first i ≡ false
  of_unseen h = either (seen_before ts first i) refl
    where
      either : (b : Bool) → seen_before ts first i ≡ b → b ≡ false
      either true p = absurd (h (seen p))
      either false p = refl
