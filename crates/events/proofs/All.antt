-- A test of each of the first n numbers, one at a time: it holds up to i, and what fails once stays failed.
use Prim.Native.Nat.{ℕ, zero, suc, ◌+◌, ◌-◌, ◌<◌}
use mathlib.Core.Path.{◌≡◌, refl, subst, ◌∙◌}
use mathlib.Core.Bool.{Bool, true, false, ◌&&◌}
use mathlib.Core.Logic.{◌⊎◌, inl, inr, ⊎_elim}
use native.Mathlib.Numerals.{add-one}
use native.Mathlib.Nat.{add-zero, add-suc}
use native.Mathlib.Omega.{arith}

pub bool_cases : (b : Bool) → (b ≡ true) ⊎ (b ≡ false)
bool_cases true = inl refl
bool_cases false = inr refl

and_false : (b : Bool) → b && false ≡ false
and_false true = refl
and_false false = refl

module _ (P q : ℕ → Bool) (step : (n : ℕ) → P (suc n) ≡ P n && q n) where
  pub all_more : (i : ℕ) → P i ≡ true → q i ≡ true → P (i + 1) ≡ true
  all_more i e h = rw add-one (step i ∙ rw (e, h))

  stays : (i k : ℕ) → P i ≡ false → P (i + k) ≡ false
  stays i zero e = rw add-zero e
  stays i (suc k) e = rw add-suc (step (i + k) ∙ rw (stays i k e))

  pub all_fails : (i n : ℕ) → i < n → P i ≡ true → q i ≡ false → P n ≡ false
  all_fails i n h e f =
      let there : i + 1 + (n - (i + 1)) ≡ n = omega arith in
      subst (λ (k : ℕ). P k ≡ false) there (stays (i + 1) (n - (i + 1)) (rw add-one (step i ∙ rw (e, f))))

  pub all_at : (i n : ℕ) → i < n → P n ≡ true → q i ≡ true
  all_at i n h e =
      let there : i + 1 + (n - (i + 1)) ≡ n = omega arith in
      ⊎_elim
      (λ t. t)
      (λ f.
      let fails : P n ≡ false =
      subst (λ (k : ℕ). P k ≡ false) there
      (stays (i + 1) (n - (i + 1)) (rw add-one (step i ∙ rw f (and_false (P i))))) in
      cc)
      (bool_cases (q i))
