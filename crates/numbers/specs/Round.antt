-- A float rounded to a whole number, a half away from zero. Definition.
use Rattle.std.specs.Prelude.{ℕ, ◌+◌, ◌-◌, ◌*◌, ◌/◌, ◌^◌, min, cond, Float}
use Rattle.std.specs.Float.{nan, inf, fin}
use Rattle.std.specs.Float.Ieee.{up, down}

-- The nearest whole number, a half up: of a / b it is (2a + b) / 2b, cut. A NaN and what is below
-- zero give 0; the largest answer is 2 ^ 64 - 1.
unfoldable pub round_away : Float → ℕ
round_away nan = 0
round_away (inf s) = cond s 0 (2 ^ 64 - 1)
round_away (fin s m e) = cond s 0 (min ((2 * (m * up e) + down e) / (2 * down e)) (2 ^ 64 - 1))
