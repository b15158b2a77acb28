-- The test of a fraction, and a fraction as a whole number. Definitions; the laws stand in `Laws`.
pub mod Units
pub mod Quotient
use Rattle.std.specs.Prelude.{ℕ, ◌*◌, ◌/◌, ◌^◌, Bool, true, false, pos, Float}
use Rattle.std.specs.Float.{nan, inf, fin, binary64}
use Rattle.std.specs.Float.Ieee.{up, down, div, le, of_int}

-- Whether p of t reach the fraction f: the f64 quotient of the two counts, each rounded to an f64,
-- is f or more. 0 / 0 is a NaN and reaches nothing; 1 / 0 is an infinity.
unfoldable pub reached : ℕ → ℕ → Float → Bool
reached p t f = le f (div binary64 (of_int binary64 (pos p)) (of_int binary64 (pos t)))

-- A fraction as a whole number of 2 ^ -1074ths, in which no f64 loses anything
-- (`Laws.in1074_value`): 0 for a NaN, an infinity, and what is below zero.
unfoldable pub in1074 : Float → ℕ
in1074 nan = 0
in1074 (inf s) = 0
in1074 (fin true m e) = 0
in1074 (fin false m e) = m * up e * 2 ^ 1074 / down e
