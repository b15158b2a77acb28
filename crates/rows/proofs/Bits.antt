-- Marks: what is set by one more mark, and how the marks follow the targets of a row. Assumes nothing.
use Prim.Native.Nat.{ℕ, zero, suc, ◌+◌, ◌-◌, ◌*◌, ◌/◌, ◌%◌, ◌^◌, ◌<◌}
use native.Mathlib.Nat.{div-eq_of_lt, one-mul, zero-div}
use native.Mathlib.Numerals.{lt_of_le_of_ne}
use native.Mathlib.Omega.{arith}
use mathlib.Core.Path.{◌≡◌, refl, sym, ap, ◌∙◌}
use mathlib.Core.List.{List}
use mathlib.Core.Bool.{Bool, true, false}
use lib.Dec.{ltb, eqb, lit<}
use lib.ListN.{length, get_or, replicate}
use lib.Seq.{get_or-set_same, get_or-set_other}
use lib.Bits.{bit_or, or_shr, or_mod, or_zero_r}
use lib.Pow.{pow-add, pow-lt, shl-shr, shl_exact}
use borrow.Author.Tests.{ltb-true, ltb-false, eqb-true, eqb-false}
use Rattle.rows.specs.Marks.{is_marked, marked}

-- ---- one bit
abbrev bit : ℕ → ℕ → ℕ
bit w j = w / 2 ^ j % 2

-- of a power of two
own : (k : ℕ) → bit (2 ^ k) k ≡ 1
own k = let e : 2 ^ k / 2 ^ k ≡ 1 = ap (λ (x : ℕ). x / 2 ^ k) (let m : 2 ^ k ≡ 1 * 2 ^ k = omega arith in m) ∙ shl-shr 1 k in rw e

below : (j k : ℕ) → j < k → bit (2 ^ k) j ≡ 0
below j k h =
    let s : k ≡ (k - j - 1) + 1 + j = omega arith in
    let p : 2 ^ k ≡ 2 ^ ((k - j - 1) + 1) * 2 ^ j = ap (λ (x : ℕ). 2 ^ x) s ∙ pow-add 2 ((k - j - 1) + 1) j in
    let q : 2 ^ ((k - j - 1) + 1) ≡ 2 ^ (k - j - 1) * 2 = pow-add 2 (k - j - 1) 1 in
    ap (λ (x : ℕ). x / 2 ^ j % 2) p ∙ ap (λ (x : ℕ). x % 2) (shl-shr (2 ^ ((k - j - 1) + 1)) j ∙ q) ∙ even (2 ^ (k - j - 1))
  where
    even : (x : ℕ) → x * 2 % 2 ≡ 0
    even x = omega arith

above : (j k : ℕ) → k < j → bit (2 ^ k) j ≡ 0
above j k h = rw (div-eq_of_lt (pow-lt h))

or_one : (x : ℕ) → x < 2 → bit_or x 1 ≡ 1
or_one zero h = refl
or_one (suc zero) h = refl
or_one (suc (suc x)) h = absurd (let z : ⊥ = omega arith in z)

-- with bit k set
set-bit : (w j k : ℕ) → bit (bit_or w (2 ^ k)) j ≡ bit_or (bit w j) (bit (2 ^ k) j)
set-bit w j k = ap (λ (x : ℕ). x % 2) (or_shr w (2 ^ k) j) ∙ or_mod (w / 2 ^ j) (2 ^ k / 2 ^ j) 1

pub set_same : (w k : ℕ) → bit (bit_or w (2 ^ k)) k ≡ 1
set_same w k = set-bit w k k ∙ rw (own k) (or_one (bit w k) (omega arith))

pub set_other : (w j k : ℕ) → (j ≡ k → ⊥) → bit (bit_or w (2 ^ k)) j ≡ bit w j
set_other w j k h =
    set-bit w j k ∙ ap (λ (x : ℕ). bit_or (bit w j) x) (none (ltb j k) refl) ∙ or_zero_r (bit w j)
  where
    none : (b : Bool) → ltb j k ≡ b → bit (2 ^ k) j ≡ 0
    none true e = below j k (ltb-true j k e)
    none false e = above j k (lt_of_le_of_ne (ltb-false j k e) (λ q. h (sym q)))

-- the code's 1 << k
pub one_bit : (k : ℕ) → k < 64 → 1 * 2 ^ k % 18446744073709551616 ≡ 2 ^ k
one_bit k h = shl_exact 1 k 64 (lit< tt) (omega arith) ∙ one-mul (2 ^ k)

-- ---- a mark
split : (a b : ℕ) → a / 64 ≡ b / 64 → a % 64 ≡ b % 64 → a ≡ b
split a b p q = omega arith

module _ (marks : List ℕ) (m : ℕ) (fits : m < length marks * 64) where
  in-word : (k : ℕ) → k / 64 ≡ m / 64 → is_marked (marked marks m) k ≡ eqb (bit (bit_or (get_or marks (m / 64) 0) (2 ^ (m % 64))) (k % 64)) 1
  unfolding is_marked marked
  in-word k p = rw (p, get_or-set_same marks (m / 64) (bit_or (get_or marks (m / 64) 0) (2 ^ (m % 64))) 0 (omega arith))

  pub mark_same : is_marked (marked marks m) m ≡ true
  mark_same = in-word m refl ∙ rw (set_same (get_or marks (m / 64) 0) (m % 64))

  pub mark_other : (k : ℕ) → (k ≡ m → ⊥) → is_marked (marked marks m) k ≡ is_marked marks k
  unfolding is_marked marked
  mark_other k h = near (eqb (k / 64) (m / 64)) refl
    where
      near : (b : Bool) → eqb (k / 64) (m / 64) ≡ b → is_marked (marked marks m) k ≡ is_marked marks k
      near false e = rw (get_or-set_other marks (m / 64) (k / 64) (bit_or (get_or marks (m / 64) 0) (2 ^ (m % 64))) 0 (eqb-false (k / 64) (m / 64) e))
      near true e =
          let p : k / 64 ≡ m / 64 = eqb-true (k / 64) (m / 64) e in
          in-word k p ∙ rw (set_other (get_or marks (m / 64) 0) (k % 64) (m % 64) (λ q. h (split k m p q)), p)

-- ---- clear marks
zeros : (n k : ℕ) → ◌≡◌ {A = ℕ} (get_or (replicate n 0) k 0) 0
zeros zero k = refl
zeros (suc n) zero = refl
zeros (suc n) (suc k) = zeros n k

pub clear : (n m : ℕ) → is_marked (replicate n 0) m ≡ false
unfolding is_marked
clear n m = rw (zeros n (m / 64), zero-div (2 ^ (m % 64)))
