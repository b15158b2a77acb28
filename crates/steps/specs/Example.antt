-- Small tables, for the marked cases and the worked runs.
use Rattle.std.specs.Prelude.{ℕ, ◌+◌, ◌*◌, List, [], ◌∷◌, set, replicate, Float}
use Rattle.std.specs.Float.{binary32, binary64}
use Rattle.std.specs.Float.Ieee.{of_bits}
use Rattle.machine.specs.Constants.{state_words, events}

-- a state row of zeros but for these words, each with its place
abbrev pub state_with : List (ℕ × ℕ) → List ℕ
state_with [] = replicate state_words 0
state_with (w ∷ ws) = set (state_with ws) w.0 w.1

-- where the pair of an event begins, and its count
abbrev pub pair_first : ℕ → ℕ
pair_first event = events + event * 2

abbrev pub pair_count : ℕ → ℕ
pair_count event = events + event * 2 + 1

-- ---- bits of an f32 and of an f64
abbrev pub quarter32 : ℕ
quarter32 = 0x3e80_0000

abbrev pub half32 : ℕ
half32 = 0x3f00_0000

abbrev pub one32 : ℕ
one32 = 0x3f80_0000

abbrev pub quarter64 : ℕ
quarter64 = 0x3fd0_0000_0000_0000

abbrev pub half64 : ℕ
half64 = 0x3fe0_0000_0000_0000

abbrev pub one64 : ℕ
one64 = 0x3ff0_0000_0000_0000

abbrev pub two64 : ℕ
two64 = 0x4000_0000_0000_0000

abbrev pub five64 : ℕ
five64 = 0x4014_0000_0000_0000

abbrev pub ten64 : ℕ
ten64 = 0x4024_0000_0000_0000

abbrev pub f32 : ℕ → Float
f32 bits = of_bits binary32 bits

abbrev pub f64 : ℕ → Float
f64 bits = of_bits binary64 bits
