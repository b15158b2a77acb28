-- The words 1 to 0x3f80_0000 are the probabilities above 0 up to 1, and what that says of a transition. Assumes nothing.
use Prim.Native.Nat.{ℕ, zero, suc, ◌+◌, ◌*◌, ◌/◌, ◌%◌, ◌^◌, ◌≤◌, ◌<◌}
use native.Mathlib.Nat.{pos_of_ne-zero, le_trans, le_of_eq, le_of_lt, le_of_suc-le-suc, le_of_mul-le-mul_right, mul_comm, mul-pos, mul-one, one-mul, zero-mul, mul-le-mul_left, mul-le-mul_right, lt_irrefl, lt_of_lt_of_le, lt_of_le_of_lt}
use native.Mathlib.Omega.{arith}
use mathlib.Core.Path.{◌≡◌, refl, sym, ◌∙◌, subst}
use mathlib.Core.List.{List}
use mathlib.Core.Bool.{Bool, true, false, not, cond, true≢false}
use lib.ListN.{get_or}
use lib.IntN.{ℤ}
use lib.Dec.{T, ltb, lit≤, lit<}
use lib.Pow.{pow_pos, pow_mono}
use lib.Ieee.{Float, nan, inf, fin, binary32, up, down, odd, of_fields, of_bits, lt, le, eq, nan_bits}
use lib.Ieee.Bits.{nan_bits_above}
use lib.Ieee.Fits.{down_pos}
use lib.Ieee.Positive.{first_pos}
use lib.Ieee.Exact.{HasValue, odd_sign}
use borrow.Author.Tests.{lt-ltb, ltb-true, ltb-false, le-ltb, lt-leb, ne_eqb}
use Rattle.rows.specs.Row.{is_target, improbable, transition_refusal}

-- ---- a number above 0 and up to 1
probable : (m : ℕ) (e : ℤ) → 0 < m * up e → m * up e ≤ down e → improbable (fin false m e) ≡ false
unfolding improbable le lt eq of_bits of_fields odd
probable m e h k =
    let n = m * up e * 1 in
    let a : 0 * down e < n = rw (zero-mul (down e), mul-one (m * up e)) h in
    let b : n ≤ 1 * down e = rw (mul-one (m * up e), one-mul (down e)) k in
    rw (le-ltb n (0 * down e) (le_of_lt a), ne_eqb n (0 * down e) (λ z. lt_irrefl n (subst (λ (x : ℕ). x < n) (sym z) a)), le-ltb (1 * down e) n b)

-- a / c, above 0 and up to 1
of_value : (x : Float) (a c : ℕ) → 0 < a → a ≤ c → HasValue x false a c → improbable x ≡ false
of_value nan a c h k v = absurd v
of_value (inf s) a c h k v = absurd v
of_value (fin true m e) a c h k v = absurd (true≢false v.0)
of_value (fin false m e) a c h k v =
    let some : 0 < m * up e * c = subst (λ (x : ℕ). 0 < x) (sym v.1) (mul-pos h (down_pos e)) in
    let most : m * up e * c ≤ down e * c = le_trans (le_of_eq (v.1 ∙ mul_comm a (down e))) (mul-le-mul_left (down e) k) in
    probable m e (first_pos (m * up e) c some) (le_of_mul-le-mul_right most (lt_of_lt_of_le h k))

-- q * 2 ^ k of the 2 ^ 149 parts of 1
of_odd : (q k : ℕ) → 0 < q → q * 2 ^ k ≤ 2 ^ 149 → improbable (odd 24 false q k 149) ≡ false
of_odd q k h l = of_value (odd 24 false q k 149) (q * 2 ^ k) (2 ^ 149) (mul-pos h (pow_pos k)) l (odd_sign 24 false q k 149)

-- ---- the words: the exponent's field x, and the digits t
of_fields_lem : (x t : ℕ) → 0 < x * 0x80_0000 + t → t < 0x80_0000 → x * 0x80_0000 + t ≤ 0x3f80_0000 → improbable (of_fields binary32 false x t) ≡ false
unfolding of_fields
of_fields_lem zero t h d k = of_odd t 0 (omega arith) (le_trans (let a : t * 1 ≤ 0x80_0000 = omega arith in a) (lit≤ tt))
of_fields_lem (suc x) t h d k =
    let n : suc x ≡ 255 → ⊥ = λ z. omega (arith, z) in
    rw (ne_eqb (suc x) 255 n) (of_odd (0x80_0000 + t) x (omega arith) (go (ltb x 126) refl))
  where
    go : (b : Bool) → ltb x 126 ≡ b → (0x80_0000 + t) * 2 ^ x ≤ 2 ^ 149
    go true e =
        let q : 0x80_0000 + t ≤ 2 ^ 24 = omega arith in
        le_trans (mul-le-mul_right (2 ^ x) q) (le_trans (mul-le-mul_left (2 ^ 24) (pow_mono (le_of_suc-le-suc (ltb-true x 126 e)))) (lit≤ tt))
    go false e =
        let l : 126 ≤ x = ltb-false x 126 e in
        let p : x ≡ 126 = omega arith in
        let q : 0x80_0000 + t ≡ 0x80_0000 = omega arith in
        rw (p, q) (lit≤ tt)

word_probable : (w : ℕ) → 0 < w → w ≤ 0x3f80_0000 → improbable (of_bits binary32 (w % 0x1_0000_0000)) ≡ false
unfolding of_bits
word_probable w h k =
    let e : w % 0x1_0000_0000 ≡ w = omega arith in
    let f : w % 0x8000_0000 ≡ w = omega arith in
    rw (e, f, lt-leb 0x8000_0000 w (omega arith)) (of_fields_lem (w / 0x80_0000) (w % 0x80_0000) (omega arith) (omega arith) (omega arith))

-- up to the infinity's word there is no NaN pattern
pub word_number : (w : ℕ) → w ≤ 0x7f80_0000 → T (not (nan_bits binary32 w))
word_number w k =
    let a : w % 0x8000_0000 ≤ 0x7f80_0000 = omega arith in
    subst (λ (b : Bool). T (not b)) (sym (nan_bits_above binary32 w ∙ le-ltb 0x7f80_0000 (w % 0x8000_0000) a)) tt

-- ---- a transition with a target and such a word is refused only where its target repeats
pub good : (t : List ℕ) (n : ℕ) (seen : Bool) → is_target n (get_or t 0 0) ≡ true → (get_or t 1 0 ≡ 0 → ⊥) → get_or t 1 0 ≤ 0x3f80_0000
    → transition_refusal t n 0 seen ≡ cond seen 11 0
unfolding transition_refusal
good t n seen h some below =
    rw (zero-mul 2)
    (simp (
      lt-leb 0x1_0000_0000 (get_or t 1 0) (lt_of_le_of_lt below (lit< tt)),
      h,
      word_probable (get_or t 1 0) (pos_of_ne-zero some) below,
    ))

-- as is one to a state of the machine
pub usual : (t : List ℕ) (n : ℕ) (seen : Bool) → get_or t 0 0 < n → (get_or t 1 0 ≡ 0 → ⊥) → get_or t 1 0 ≤ 0x3f80_0000
    → transition_refusal t n 0 seen ≡ cond seen 11 0
usual t n seen h some below = good t n seen (state h) some below
  where
    state : get_or t 0 0 < n → is_target n (get_or t 0 0) ≡ true
    state h = unfold is_target in rw (lt-ltb (get_or t 0 0) n h)
