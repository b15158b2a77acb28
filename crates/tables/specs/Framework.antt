-- framework.rs, `Framework::new`: the checks of the framework's own fractions.
use Rattle.std.specs.Prelude.{ℕ, Bool, cond, ◌&&◌, Float}
use Rattle.std.specs.Float.{binary64}
use Rattle.std.specs.Float.Ieee.{of_bits, le}

-- 0.0 to 1.0; a NaN is not, -0.0 is
unfoldable pub is_fraction : Float → Bool
is_fraction x = le (of_bits binary64 0) x && le x (of_bits binary64 0x3ff0_0000_0000_0000)

-- Refusals 1 (padding) and 2 (blocking).
unfoldable pub fractions_refusal : Float → Float → ℕ
fractions_refusal max_padding_frac max_blocking_frac =
    cond (is_fraction max_padding_frac) (cond (is_fraction max_blocking_frac) 0 2) 1
