-- Words of eight bytes, the low byte first, and the floats whose bits are a word.
use Rattle.std.specs.Prelude.{ℕ, zero, suc, ◌+◌, ◌*◌, ◌%◌, List, [], ◌∷◌, ◌++◌, map, get_or, Float}
use Rattle.std.specs.Float.Ieee.{of_bits}
use Rattle.std.specs.Float.{binary32, binary64}

-- the number that the two bytes from `at` on spell
abbrev pub pair_at : List ℕ → ℕ → ℕ
pair_at b at = get_or b (at + 1) 0 * 256 + get_or b at 0

-- the number that the eight bytes from `at` on spell
abbrev pub word_at : List ℕ → ℕ → ℕ
word_at b at =
    ((((((get_or b (at + 7) 0 * 256 + get_or b (at + 6) 0) * 256 + get_or b (at + 5) 0) * 256 + get_or b (at + 4) 0) * 256
    + get_or b (at + 3) 0) * 256
    + get_or b (at + 2) 0) * 256
    + get_or b (at + 1) 0) * 256
    + get_or b at 0

-- the first k words
unfoldable pub words_to : List ℕ → ℕ → List ℕ
words_to b zero = []
words_to b (suc k) = words_to b k ++ (word_at b (8 * k) ∷ [])

-- a chance draw: the f32 whose bits are a word, or its low 32 bits where it has more
abbrev pub chance_of : ℕ → Float
chance_of w = of_bits binary32 (w % 4294967296)

-- a value draw: the f64 whose bits are a word
abbrev pub value_of : ℕ → Float
value_of w = of_bits binary64 w

-- the tape of chance draws
abbrev pub chances : List ℕ → List Float
chances ws = map chance_of ws

-- the tape of value draws
abbrev pub values : List ℕ → List Float
values ws = map value_of ws
