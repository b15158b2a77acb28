-- A word in its columns, and the words of a row, one behind the other: what is written, and what is read. A text is a list of
-- bytes.
use Rattle.std.specs.Prelude.{ℕ, zero, suc, ◌^◌, Bool, cond, ◌&&◌, List, [], ◌∷◌, ◌++◌, Option, Some, None, ltb, take, drop}
use Rattle.std.specs.Option.{unwrap_or}
use Rattle.machine.specs.Same.{same}
use Rattle.columns.specs.Digits.{read_back}
use Rattle.columns.specs.Columns.{right, rights}

-- ---- pieces of one size

-- f of the first `step` elements, then of the next, and so on, n times
unfoldable pub each : (List ℕ → List ℕ) → ℕ → ℕ → List ℕ → List ℕ
each f step zero xs = []
each f step (suc n) xs = f (take step xs) ++ each f step n (drop step xs)

-- how many times in a row, and at most n times, the next `step` elements pass the test
unfoldable pub leading : (List ℕ → Bool) → ℕ → ℕ → List ℕ → ℕ
leading test step zero xs = 0
leading test step (suc n) xs = cond (test (take step xs)) (suc (leading test step n (drop step xs))) 0

-- ---- what is written

-- the columns of a word
abbrev pub word_columns : ℕ
word_columns = 21

-- each word in its columns
abbrev pub cells : List ℕ → List ℕ
cells row = rights word_columns row

-- ---- what is read

-- what the writer puts for a word: the bytes are the columns of the number that they spell, which is a u64. (Bytes other than
-- spaces and digits spell something too, but stand in no number's columns.)
unfoldable pub is_cell : List ℕ → Bool
is_cell bytes = ltb (read_back bytes) (2 ^ 64) && same bytes (right word_columns (read_back bytes))

-- the word of a cell
unfoldable pub cell_of : List ℕ → Option ℕ
cell_of bytes = cond (is_cell bytes) (Some (read_back bytes)) None

-- it, in a row of one; 0 where the bytes are no cell
abbrev pub word_in : List ℕ → List ℕ
word_in bytes = unwrap_or (cell_of bytes) 0 ∷ []
