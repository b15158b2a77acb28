-- A line of a sheet, of any kind and with any number of words, and the lines of one kind, one behind the other: what is
-- written, and what is read.
use Rattle.std.specs.Prelude.{ℕ, ◌+◌, ◌*◌, ◌/◌, Bool, ◌&&◌, List, [], ◌∷◌, ◌++◌, eqb, length, take, drop, get_or}
use Rattle.machine.specs.Same.{same}
use Rattle.columns.specs.Columns.{right}
use Rattle.cells.specs.Cells.{each, leading, word_columns, cells, is_cell, word_in}

-- ---- what is written

-- the columns of a kind
abbrev pub kind_columns : ℕ
kind_columns = 4

-- the line of a row: its kind, its words, and a line feed
unfoldable pub line_of : ℕ → List ℕ → List ℕ
line_of kind row = right kind_columns kind ++ (cells row ++ (10 ∷ []))

-- the bytes of the line of a row of so many words
abbrev pub line_bytes : ℕ → ℕ
line_bytes words = kind_columns + word_columns * words + 1

-- the lines of a table whose rows have so many words
unfoldable pub lines_of : ℕ → ℕ → List ℕ → List ℕ
lines_of kind words table = each (line_of kind) words (length table / words) table

-- ---- what is read

-- a line of this kind, with so many words
unfoldable pub is_line : ℕ → ℕ → List ℕ → Bool
is_line kind words line =
    same (take kind_columns line) (right kind_columns kind)
    && (eqb (leading is_cell word_columns words (drop kind_columns line)) words
    && eqb (get_or line (kind_columns + word_columns * words) 0) 10)

-- the words of a line, cell by cell
unfoldable pub words_of : ℕ → List ℕ → List ℕ
words_of words line = each word_in word_columns words (drop kind_columns line)

-- ---- the lines of one kind at the front of a text

-- how many there are
unfoldable pub lines : ℕ → ℕ → List ℕ → ℕ
lines kind words text = leading (is_line kind words) (line_bytes words) (length text / line_bytes words) text

-- the table of the first n lines
unfoldable pub table_of : ℕ → ℕ → List ℕ → List ℕ
table_of words n text = each (words_of words) (line_bytes words) n text

-- what follows n of them
unfoldable pub behind : ℕ → ℕ → List ℕ → List ℕ
behind words n text = drop (line_bytes words * n) text
