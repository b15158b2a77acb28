-- The first refusal met: one turn of a loop at a time, and where it is met. Assumes nothing.
use Prim.Native.Nat.{ℕ, zero, suc, ◌+◌, ◌-◌, ◌≤◌, ◌<◌}
use Rattle.std.proofs.Common.{eq-or-lt_of_le, sym, ◌∙◌, subst, ⊎_elim, eqb-true, eq-eqb, ne_eqb}
use native.Mathlib.Omega.{arith}
use Rattle.std.specs.Prelude.{◌≡◌, refl, Bool, true, false, eqb}
use Rattle.std.proofs.lemmas.Bool.{eqb-false}
use Rattle.refusal.specs.declared.Refusal.{Refusal}
use Rattle.refusal.specs.Refusal.{number}
use Rattle.rows.specs.First.{or_else, first_refusal}

-- ---- a refusal is not 0
pub refused : (r : Refusal) → number r ≡ 0 → ⊥
refused r e = absurd (omega (arith, positive r, e))
  where
    positive : (s : Refusal) → 0 < number s
    positive s = grind arith

-- ---- one refusal, then another
pub second : {a b : ℕ} → a ≡ 0 → or_else a b ≡ b
unfolding or_else
second {a} p = rw (eq-eqb a 0 p)

pub former : {a : ℕ} (b : ℕ) → (a ≡ 0 → ⊥) → or_else a b ≡ a
unfolding or_else
former {a} b p = rw (ne_eqb a 0 p)

-- ---- from i up to e
module _ (f : ℕ → ℕ) (e i : ℕ) where
  turn : i < e → first_refusal f (e - i) i ≡ or_else (f i) (first_refusal f (e - (i + 1)) (i + 1))
  unfolding first_refusal
  turn h = let one : e - i ≡ suc (e - (i + 1)) = omega arith in rw one

  pub first_on : i < e → f i ≡ 0 → first_refusal f (e - i) i ≡ first_refusal f (e - (i + 1)) (i + 1)
  first_on h p = turn h ∙ second p

  pub first_here : i < e → (f i ≡ 0 → ⊥) → first_refusal f (e - i) i ≡ f i
  first_here h p = turn h ∙ former _ p

  pub first_end : e ≤ i → first_refusal f (e - i) i ≡ 0
  unfolding first_refusal
  first_end h = let none : e - i ≡ zero = omega arith in rw none

-- ---- a loop from i up to e, whose answer x is the first refusal from i on
module _ (f : ℕ → ℕ) (e i : ℕ) {x : ℕ} (is : x ≡ first_refusal f (e - i) i) where
  pub loop_stops : i < e → (r : Refusal) → number r ≡ f i → number r ≡ x
  loop_stops h r p = p ∙ sym (is ∙ first_here f e i h (λ z. refused r (p ∙ z)))

  pub loop_on : i < e → 0 ≡ f i → x ≡ first_refusal f (e - (i + 1)) (i + 1)
  loop_on h p = is ∙ first_on f e i h (sym p)

  pub loop_ends : e ≤ i → 0 ≡ x
  loop_ends h = sym (is ∙ first_end f e i h)

-- ---- where it is met, of f at i, i + 1, .., k of them: all are 0, or one is the answer and those before it are 0
pub data Met (f : ℕ → ℕ) (k i : ℕ) : Type 0 where
  none : first_refusal f k i ≡ 0 → ((j : ℕ) → i ≤ j → j < i + k → f j ≡ 0) → Met f k i
  some : (p : ℕ) → i ≤ p → p < i + k → f p ≡ first_refusal f k i → 0 < first_refusal f k i →
      ((j : ℕ) → i ≤ j → j < p → f j ≡ 0) → Met f k i

pub met : (f : ℕ → ℕ) (k i : ℕ) → Met f k i
unfolding first_refusal
met f zero i = none refl (λ j h g. absurd (omega arith))
met f (suc k) i = here (met f k (i + 1)) (eqb (f i) 0) refl
  where
    from : f i ≡ 0 → Met f k (i + 1) → Met f (suc k) i
    from p (none e all) =
        none (second p ∙ e)
        (λ j h g. ⊎_elim (λ q. subst (λ (m : ℕ). f m ≡ 0) q p) (λ q. all j (omega arith) (omega arith)) (eq-or-lt_of_le h))
    from p (some at low high e r all) =
        let o : or_else (f i) (first_refusal f k (i + 1)) ≡ first_refusal f k (i + 1) = second p in
        some at (omega arith) (omega arith) (e ∙ sym o) (subst (λ (m : ℕ). 0 < m) (sym o) r)
        (λ j h g. ⊎_elim (λ q. subst (λ (m : ℕ). f m ≡ 0) q p) (λ q. all j (omega arith) g) (eq-or-lt_of_le h))

    here : Met f k (i + 1) → (b : Bool) → eqb (f i) 0 ≡ b → Met f (suc k) i
    here m true p = from (eqb-true (f i) 0 p) m
    here m false p =
        let o : or_else (f i) (first_refusal f k (i + 1)) ≡ f i = former _ (eqb-false (f i) 0 p) in
        let n : f i ≡ 0 → ⊥ = eqb-false (f i) 0 p in
        let r : 0 < f i = omega arith in
        some i (omega arith) (omega arith) (sym o) (subst (λ (m : ℕ). 0 < m) (sym o) r) (λ j h g. absurd (omega arith))

pub all_zero : (f : ℕ → ℕ) (k i : ℕ) → ((j : ℕ) → i ≤ j → j < i + k → f j ≡ 0) → first_refusal f k i ≡ 0
unfolding first_refusal
all_zero f zero i h = refl
all_zero f (suc k) i h =
    second (h i (omega arith) (omega arith)) ∙ all_zero f k (i + 1) (λ j l g. h j (omega arith) (omega arith))
