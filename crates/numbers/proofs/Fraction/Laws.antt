-- What the test of a fraction says of exact numbers. Rounding is monotone, so a passed test is an
-- exact inequality (`passed_is_below`). The converse fails: 1 of 10 is below the f64 nearest to
-- 0.1, and the test stops. Assumes nothing.
use Rattle.std.specs.Prelude.{◌≡◌, ℕ, ◌*◌, ◌/◌, ◌^◌, ◌<◌, ◌≤◌, Bool, true, false, cond, not, T, ℤ, pos, refl, Float}
use Rattle.std.proofs.Common.{le_of_eq, le_trans, lt_irrefl, lt_of_lt_of_le, lt_of_not-le, le-div_iff_mul-le, mul-div_cancel, mul-one, one-mul, sym, ap, ◌∙◌, subst, lit≤, ltb→lt, lt→ltb, pow_pos, ne_eqb}
use Rattle.std.specs.Float.{nan, inf, fin, binary64}
use Rattle.std.specs.Float.Ieee.{up, down, round, div, le, of_int, fits, is_nan, of_bits}
use Rattle.std.specs.Float.Ieee.Fits.{down_pos}
use Rattle.std.specs.Float.Ieee.Exact.{HasValue}
use Rattle.std.specs.Float.Ieee.Back.{round_whole}
use Rattle.std.specs.Float.Ieee.Order.{round_mono}
use Rattle.std.specs.Float.Ieee.Positive.{positive, first_pos, value_pos, positive_of_value, above, above_of_le}
use Rattle.numbers.specs.Finite.{zero_f}
use Rattle.numbers.specs.Positive.{le_from}
use Rattle.numbers.specs.Fraction.{reached, in1074}
use Rattle.numbers.specs.Fraction.Units.{whole_units}
use Rattle.numbers.specs.Fraction.Quotient.{quotient_is, reaches}

-- ---- a fraction in 2 ^ -1074ths
cut_exact : (m : ℕ) (e : ℤ) (k l : ℕ) → HasValue (fin false m e) false k l
    → m * up e * l / down e ≡ k
cut_exact m e k l v = ap (λ (z : ℕ). z / down e) v.1 ∙ mul-div_cancel k (down_pos e)

value_of : (m : ℕ) (e : ℤ) → T (fits binary64 (fin false m e))
    → HasValue (fin false m e) false (in1074 (fin false m e)) (2 ^ 1074)
unfolding in1074
value_of m e t =
    let u = whole_units binary64 m e t in
    let k = m * 2 ^ u.0 in
    subst (λ (z : ℕ). HasValue (fin false m e) false z (2 ^ 1074))
    (sym (cut_exact m e k (2 ^ 1074) u.1)) u.1

-- exact: x is in1074 x / 2 ^ 1074
pub in1074_value : (x : Float) → T (fits binary64 x) → T (positive x)
    → HasValue x false (in1074 x) (2 ^ 1074)
in1074_value nan t p = absurd p
in1074_value (inf s) t p = absurd p
in1074_value (fin true m e) t p = absurd p
in1074_value (fin false m e) t p = value_of m e t

-- the number is above 0 exactly where x is finite and above zero
pub positive_units : (x : Float) → T (fits binary64 x) → T (positive x) → 0 < in1074 x
positive_units x t p = value_pos x (in1074 x) (2 ^ 1074) p (pow_pos 1074) (in1074_value x t p)

-- a quotient above 0 has a numerator above 0
numerator_pos : (n d : ℕ) → 0 < d → 0 < n / d → 0 < n
numerator_pos n d D h =
    lt_of_lt_of_le D (le_trans (le_of_eq (sym (one-mul d))) ((le-div_iff_mul-le D).0 h))

pub units_positive : (x : Float) → 0 < in1074 x → T (positive x)
unfolding in1074
units_positive nan h = absurd (lt_irrefl 0 h)
units_positive (inf s) h = absurd (lt_irrefl 0 h)
units_positive (fin true m e) h = absurd (lt_irrefl 0 h)
units_positive (fin false m e) h =
    let n = numerator_pos (m * up e * 2 ^ 1074) (down e) (down_pos e) h in
    lt→ltb 0 m (first_pos m (up e) (first_pos (m * up e) (2 ^ 1074) n))

-- ---- the test, for counts up to 2 ^ 53, which f64 holds exactly

-- exactly at the fraction x or above it, the test stops
pub exact_stops : (x : Float) (p t : ℕ) → T (fits binary64 x) → T (positive x)
    → p ≤ 2 ^ 53 → t ≤ 2 ^ 53 → 0 < t → in1074 x * t ≤ p * 2 ^ 1074 → T (reached p t x)
unfolding reached
exact_stops x p t fit above hp ht some g =
    subst (λ (z : Float). T (le x z)) (sym (quotient_is binary64 p t hp ht some))
    (reaches binary64 x (in1074 x) p t fit above (in1074_value x fit above) some g)

-- where the test passes, p is below x * t exactly
pub passed_is_below : (x : Float) (p t : ℕ) → T (fits binary64 x) → T (positive x)
    → p ≤ 2 ^ 53 → t ≤ 2 ^ 53 → 0 < t → reached p t x ≡ false → p * 2 ^ 1074 < in1074 x * t
passed_is_below x p t fit above hp ht some e =
    lt_of_not-le (λ g. subst T e (exact_stops x p t fit above hp ht some g))

-- what reaches x is reached by every fraction that is no smaller
pub reached_mono : (x : Float) (p t p' t' : ℕ) → T (positive x)
    → p ≤ 2 ^ 53 → t ≤ 2 ^ 53 → p' ≤ 2 ^ 53 → t' ≤ 2 ^ 53 → 0 < t → 0 < t' → p * t' ≤ p' * t
    → T (reached p t x) → T (reached p' t' x)
unfolding reached
reached_mono x p t p' t' h a b a' b' c c' g r =
    subst (λ (z : Float). T (le x z)) (sym (quotient_is binary64 p' t' a' b' c'))
    (le_from x (round binary64 false p t) (round binary64 false p' t') h
    (subst (λ (z : Float). T (le x z)) (quotient_is binary64 p t a b c) r)
    (round_mono binary64 p t p' t' c c' g))

-- ---- a total of 0: 0 of it is a NaN, any other count of it an infinity

-- 0 of 0 reaches no fraction
pub none_of_none_passes : (x : Float) → reached 0 0 x ≡ false
unfolding reached le div of_int
none_of_none_passes nan = refl
none_of_none_passes (inf s) = refl
none_of_none_passes (fin s m e) = refl

over_none : (y : Float) → T (above y) → div binary64 y zero_f ≡ inf false
unfolding div of_bits
over_none nan h = absurd h
over_none (inf true) h = absurd h
over_none (inf false) h = refl
over_none (fin true m e) h = absurd h
over_none (fin false m e) h =
    let some : m ≡ 0 → ⊥ = λ z. lt_irrefl 0 (subst (λ (k : ℕ). 0 < k) z (ltb→lt 0 m h)) in
    ap (λ (b : Bool). cond b nan (inf false)) (ne_eqb m 0 some)

count_above : (p : ℕ) → 0 < p → T (above (of_int binary64 (pos p)))
unfolding of_int
count_above p h =
    let one = round binary64 false 1 1 in
    above_of_le one (round binary64 false p 1)
    (positive_of_value one 1 1 (round_whole binary64 false 1 (lit≤ tt)) (pow_pos 0))
    (round_mono binary64 1 1 p 1 (pow_pos 0) (pow_pos 0) (le_trans h (le_of_eq (sym (mul-one p)))))

infinity_reaches : (x : Float) → T (not (is_nan x)) → T (le x (inf false))
unfolding le is_nan
infinity_reaches nan h = absurd h
infinity_reaches (inf true) h = tt
infinity_reaches (inf false) h = tt
infinity_reaches (fin s m e) h = tt

none_is_zero : of_int binary64 (pos 0) ≡ zero_f
unfolding of_int of_bits
none_is_zero = refl

-- any other count of 0 reaches every fraction but a NaN
pub some_of_none_stops : (x : Float) (p : ℕ) → T (not (is_nan x)) → 0 < p → T (reached p 0 x)
unfolding reached
some_of_none_stops x p h some =
    let count = of_int binary64 (pos p) in
    let none = none_is_zero in
    let q : div binary64 count (of_int binary64 (pos 0)) ≡ inf false =
    ap (div binary64 count) none ∙ over_none count (count_above p some) in
    subst (λ (z : Float). T (le x z)) (sym q) (infinity_reaches x h)
