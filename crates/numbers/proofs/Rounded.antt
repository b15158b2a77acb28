-- A float that is rounded, a half away from zero, and then cut. The rounded number is a whole one of
-- at most 53 bits, or the float was whole. Assumes nothing.
use Rattle.std.proofs.Common.{◌≡◌, ℕ, zero, suc, ◌+◌, ◌-◌, ◌*◌, ◌/◌, ◌^◌, ◌<◌, ◌≤◌, min, Bool, true, false, cond, T, ltb, pos, negsuc, sym, refl, ap, ◌∙◌, true≢false, div-lt_iff_lt-mul, div-one, mul-one, arith, lit≤, pow_pos}
use Rattle.std.specs.Float.{round_with, float_round}
use lib.Ieee.{Float, nan, inf, fin, Format, binary64, prec, emax, low, up, down}
use lib.Ieee.{odd, units, round, fits, to_unsigned}
use lib.Ieee.Fits.{down_pos, round_is}
use lib.Ieee.Exact.{HasValue}
use lib.Ieee.Nearest.{div_same}
use lib.Ieee.Back.{round_whole}
use lib.Ieee.Scale.{round_same}
use Rattle.numbers.specs.Fraction.Units.{whole_units, fits_parts, round_units}
use Rattle.numbers.specs.Round.{round_away}

-- ---- a value cut
cut_value : (w : ℕ) (x : Float) (a c : ℕ) → 0 < c → HasValue x false a c
    → to_unsigned w x ≡ min (a / c) (2 ^ w - 1)
unfolding to_unsigned
cut_value w nan a c p v = absurd v
cut_value w (inf s) a c p v = absurd v
cut_value w (fin true m e) a c p v = absurd (true≢false v.0)
cut_value w (fin false m e) a c p v =
    ap (λ (z : ℕ). min z (2 ^ w - 1)) (div_same (m * up e) (down e) a c (down_pos e) p v.1)

-- a negative result of `round` is cut to 0
odd_neg : (w d q k l : ℕ) → to_unsigned w (odd d true q k l) ≡ 0
unfolding odd to_unsigned
odd_neg w d zero k l = refl
odd_neg w d (suc q) k l = refl

units_neg : (w : ℕ) (f : Format) (q k : ℕ) → to_unsigned w (units f true q k) ≡ 0
unfolding units to_unsigned
units_neg w f q k = go (ltb (q * 2 ^ k) (2 ^ (low f + suc (emax f))))
  where
    go : (b : Bool) → to_unsigned w (cond b (odd (suc (prec f)) true q k (low f)) (inf true)) ≡ 0
    go true = odd_neg w (suc (prec f)) q k (low f)
    go false = refl

round_neg : (w : ℕ) (f : Format) (a b : ℕ) → to_unsigned w (round f true a b) ≡ 0
round_neg w f a b = ap (to_unsigned w) (round_is f true a b) ∙ units_neg w f _ _

-- ---- a whole number of 53 bits
whole_cut : (q : ℕ) → q ≤ 2 ^ 53 → to_unsigned 64 (round binary64 false q 1) ≡ min q (2 ^ 64 - 1)
whole_cut q h =
    cut_value 64 (round binary64 false q 1) q 1 (lit≤ tt) (round_whole binary64 false q h)
    ∙ ap (λ (z : ℕ). min z (2 ^ 64 - 1)) (div-one q)

-- a fraction's numerator has 53 bits
small : (m k : ℕ) → T (fits binary64 (fin false m (negsuc k))) → m < 2 ^ 53
small zero k t = pow_pos 53
small (suc m) k t = (fits_parts binary64 false m (negsuc k) t).0

nearest_small : (a b : ℕ) → a < 2 ^ 53 → 0 < b → (2 * a + b) / (2 * b) ≤ 2 ^ 53
nearest_small a b h p =
    let some : 0 < 2 * b = omega arith in
    let q : (2 * a + b) / (2 * b) < 2 ^ 53 + 1 = (div-lt_iff_lt-mul some).1 (bound a b h p) in
    omega arith
  where
    bound : (a b : ℕ) → a < 2 ^ 53 → 0 < b → 2 * a + b < (2 ^ 53 + 1) * (2 * b)
    bound a b h p = omega arith

-- ---- a whole float
half_of_whole : (y : ℕ) → (2 * y + 1) / 2 ≡ y
half_of_whole y = omega arith

-- rounding changes no value that fits
same_cut : (m k : ℕ) → T (fits binary64 (fin false (suc m) (pos k)))
    → to_unsigned 64 (round binary64 false (suc m * 2 ^ k) 1) ≡ min (suc m * 2 ^ k) (2 ^ 64 - 1)
same_cut m k t =
    let u = whole_units binary64 (suc m) (pos k) t in
    let L = 2 ^ low binary64 in
    let K = suc m * 2 ^ u.0 in
    let P = pow_pos (low binary64) in
    let e : round binary64 false (suc m * 2 ^ k) 1 ≡ round binary64 false K L =
    round_same binary64 false (suc m * 2 ^ k) 1 K L (lit≤ tt) P u.1.1 in
    ap (to_unsigned 64) e
    ∙ cut_value 64 (round binary64 false K L) K L P (round_units binary64 m (pos k) K t u.1)
    ∙ ap (λ (z : ℕ). min z (2 ^ 64 - 1)) (sym (div_same (suc m * 2 ^ k) 1 K L (lit≤ tt) P u.1.1) ∙ div-one (suc m * 2 ^ k))

pub rounded : (x : Float) → T (fits binary64 x) → to_unsigned 64 (float_round binary64 x) ≡ round_away x
unfolding round_with round_away to_unsigned
rounded nan t = refl
rounded (inf true) t = refl
rounded (inf false) t = refl
rounded (fin true m e) t = round_neg 64 binary64 _ _
rounded (fin false zero (pos k)) t = whole_cut _ (omega arith)
rounded (fin false (suc m) (pos k)) t =
    let e : (2 * (suc m * 2 ^ k) + 1) / 2 ≡ suc m * 2 ^ k = half_of_whole (suc m * 2 ^ k) in
    rw e (same_cut m k t)
rounded (fin false m (negsuc k)) t =
    whole_cut ((2 * (m * 1) + 2 ^ suc k) / (2 * 2 ^ suc k)) (rw mul-one (nearest_small m (2 ^ suc k) (small m k t) (pow_pos (suc k))))
