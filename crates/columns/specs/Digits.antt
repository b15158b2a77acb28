-- The decimal digits of a number, as bytes, and the number that bytes spell.
use Rattle.std.specs.Prelude.{ℕ, zero, suc, ◌+◌, ◌-◌, ◌*◌, ◌/◌, ◌%◌, ◌≤◌, ◌<◌, ◌≡◌, refl, Bool, true, false, cond, eqb, ltb}
use Rattle.std.proofs.Common.{ap, arith, ne_eqb, lt-ltb, le-ltb, ltb-true, ltb-false}
use mathlib.Core.List.{List, [], ◌∷◌, ◌++◌, foldl, foldl-append}

-- ---- the definitions

-- the digits of n by at most so many divisions: a number below 10 is its digit, and a larger one has those of its tenth, and
-- then its last
unfoldable pub digits_by : ℕ → ℕ → List ℕ
digits_by zero n = []
digits_by (suc most) n =
    let front = digits_by most (n / 10) in
    cond (ltb n 10) ((48 + n) ∷ []) (front ++ ((48 + n % 10) ∷ []))

-- the digits of n, the highest first; n + 1 divisions are enough
unfoldable pub digits : ℕ → List ℕ
digits n = digits_by (suc n) n

-- the number after one byte more: a digit is one place more, a space is nothing
abbrev pub read_on : ℕ → ℕ → ℕ
read_on n b = cond (eqb b 32) n (n * 10 + (b - 48))

-- the number that a text of spaces and digits spells
unfoldable pub read_back : List ℕ → ℕ
read_back bs = foldl read_on 0 bs

-- ---- digit by digit

-- more divisions change nothing
enough : (f g n : ℕ) → n < f → n < g → digits_by f n ≡ digits_by g n
unfolding digits_by
enough zero g n h k = absurd (omega (arith, h))
enough (suc f) zero n h k = absurd (omega (arith, k))
enough (suc f) (suc g) n h k = by_size (ltb n 10) refl (λ l. enough f g (n / 10) (omega arith) (omega arith))
  where
    by_size : (b : Bool) → ltb n 10 ≡ b → (10 ≤ n → digits_by f (n / 10) ≡ digits_by g (n / 10))
        → digits_by (suc f) n ≡ digits_by (suc g) n
    by_size true e fewer = rw e
    by_size false e fewer = rw (e, fewer (ltb-false n 10 e))

-- THEOREM: a number below 10 is one digit, and 0 is the digit 0.
pub one_digit : (n : ℕ) → n < 10 → digits n ≡ (48 + n) ∷ []
unfolding digits digits_by
one_digit n h = rw (lt-ltb n 10 h)

-- THEOREM: a larger one has the digits of its tenth, and then its last.
pub more_digits : (n : ℕ) → 10 ≤ n → digits n ≡ digits (n / 10) ++ ((48 + n % 10) ∷ [])
unfolding digits digits_by
more_digits n h =
    rw (le-ltb n 10 h)
    (ap (λ (ds : List ℕ). ds ++ ((48 + n % 10) ∷ [])) (enough n (suc (n / 10)) (n / 10) (omega arith) (omega arith)))

-- what holds of numbers below 10, and of a number where it holds of its tenth, holds of all
module _ (P : ℕ → Type 0) (small : (n : ℕ) → n < 10 → P n) (large : (n : ℕ) → 10 ≤ n → P (n / 10) → P n) where
  below : (f n : ℕ) → n < f → P n
  below zero n h = absurd (omega (arith, h))
  below (suc f) n h = by_size (ltb n 10) refl (λ l. below f (n / 10) (omega arith))
    where
      by_size : (b : Bool) → ltb n 10 ≡ b → (10 ≤ n → P (n / 10)) → P n
      by_size true e fewer = small n (ltb-true n 10 e)
      by_size false e fewer = let l = ltb-false n 10 e in large n l (fewer l)

  pub by_tenths : (n : ℕ) → P n
  by_tenths n = below (suc n) n (omega arith)

-- ---- what the digits are

-- a digit more on the number so far
pub read_digit : (n d : ℕ) → d < 10 → read_on n (48 + d) ≡ n * 10 + d
read_digit n d h = rw (ne_eqb (48 + d) 32 (λ e. omega (arith, e))) (omega arith)

-- a text and one byte more
pub read_more : (bs : List ℕ) (b : ℕ) → read_back (bs ++ (b ∷ [])) ≡ read_on (read_back bs) b
unfolding read_back
read_more bs b = foldl-append read_on 0 bs (b ∷ [])
