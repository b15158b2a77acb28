-- Sums that stop at the end of u64. Definition.
-- (The difference that stops at 0 is the natural numbers' own `a - b`.)
use Rattle.std.specs.Prelude.{ℕ, ◌+◌, ◌-◌, ◌^◌, min}

-- a + b, at most u64's largest number
abbrev pub saturating_add : ℕ → ℕ → ℕ
saturating_add a b = min (a + b) (2 ^ 64 - 1)
