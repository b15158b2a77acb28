-- A Uniform value worked out from a word is never below `low` and never a NaN, so where it is not `high` or more it is fit
-- (`uniform_fits`). Assumes nothing.
pub mod Signs
pub mod Order
use Rattle.std.specs.Prelude.{ℕ, ◌/◌, ◌%◌, ◌^◌, ◌<◌, Bool, true, false, not, ◌&&◌, ◌≡◌, T, Float}
use Rattle.std.proofs.Common.{lt_trans, mod-lt, mul_assoc, mul-lt-mul_of_pos_right, sym, subst, lit<}
use Rattle.std.specs.Float.{nan, inf, fin, binary64}
use Rattle.std.specs.Float.Ieee.{round, mul, sub, lt, le, fits}
use Rattle.std.specs.Float.Ieee.Bits.{is_true, is_false}
use Rattle.std.specs.Float.Ieee.Exact.{HasValue, round_exact}
use Rattle.std.specs.Float.Ieee.Fits.{and_l, and_r}
use Rattle.std.specs.Float.Ieee.Scale.{finite}
use Rattle.numbers.specs.Finite.{is_finite}
use Rattle.machine.specs.Source.{fit_uniform}
use Rattle.machine.specs.Words.{unit_of, value_of}
use Rattle.dists.specs.Dist.{valid_uniform}
use Signs.{difference_is, product_is}
use Order.{sum_keeps, under}

-- a unit is exact
unit_value : (w : ℕ) → HasValue (unit_of w) false (w / 2 ^ 11 % 2 ^ 53) (2 ^ 53)
unit_value w = exact (w / 2 ^ 11 % 2 ^ 53) (mod-lt (w / 2 ^ 11) (lit< tt))
  where
    exact : (k : ℕ) → k < 2 ^ 53 → HasValue (round binary64 false k (2 ^ 53)) false k (2 ^ 53)
    exact k h =
        round_exact binary64 false k (2 ^ 53) k 1021 (lit< tt) h
        (lt_trans (mul-lt-mul_of_pos_right h (lit< tt)) (lit< tt)) (sym (mul_assoc k (2 ^ 1021) (2 ^ 53)))

is_finite_lem : (x : Float) → T (is_finite x) → T (finite x)
unfolding is_finite
is_finite_lem nan t = t
is_finite_lem (inf s) t = t
is_finite_lem (fin s m e) t = t

-- what a valid pair is
abbrev Valid : Float → Float → Type 0
Valid low high = T (finite low) × T (finite high) × (lt high low ≡ false) × T (finite (sub binary64 high low))

valid : (low high : Float) → valid_uniform low high ≡ true → Valid low high
unfolding valid_uniform
valid low high h =
    let a = is_finite low in
    let b = is_finite high in
    let c = not (lt high low) in
    let d = is_finite (sub binary64 high low) in
    let abcd : T (a && b && c && d) = subst T (sym h) tt in
    let abc : T (a && b && c) = and_l (a && b && c) d abcd in
    let ab : T (a && b) = and_l (a && b) c abc in (
      is_finite_lem low (and_l a b ab),
      is_finite_lem high (and_r a b ab),
      is_false (lt high low) (and_r (a && b) c abc),
      is_finite_lem (sub binary64 high low) (and_r (a && b && c) d abcd),
    )

-- never below `low`
pub uniform_reaches : (low high : Float) (w : ℕ) → valid_uniform low high ≡ true → T (fits binary64 low)
    → T (le low (value_of low high w))
uniform_reaches low high w h i =
    let v = valid low high h in
    let d = sub binary64 high low in
    sum_keeps binary64 low (mul binary64 d (unit_of w)) v.0 i
    (product_is binary64 d (unit_of w) (w / 2 ^ 11 % 2 ^ 53) (2 ^ 53) v.3
    (difference_is binary64 high low v.1 v.0 v.2) (unit_value w))

pub uniform_fits : (low high : Float) (w : ℕ) → valid_uniform low high ≡ true → T (fits binary64 low)
    → le high (value_of low high w) ≡ false → fit_uniform low high (value_of low high w) ≡ true
uniform_fits low high w h i g =
    let v = value_of low high w in
    let r = uniform_reaches low high w h i in
    both (le low v) (lt v high) (is_true (le low v) r) (under low high v (valid low high h).1 r g)
  where
    both : (a b : Bool) → a ≡ true → b ≡ true → (a && b) ≡ true
    both a b p q = rw (p, q)
