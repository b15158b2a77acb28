-- Which floats are numbers, and the number zero. Definitions.
use Rattle.std.specs.Prelude.{Bool, true, false, from_bits, Float}
use Rattle.std.specs.Float.{nan, inf, fin, binary64}

-- +0.0
abbrev pub zero_f : Float
zero_f = from_bits binary64 0

-- neither a NaN nor an infinity
unfoldable pub is_finite : Float → Bool
is_finite nan = false
is_finite (inf s) = false
is_finite (fin s m e) = true
