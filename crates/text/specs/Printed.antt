-- The text of the printed run: the line of a call, the line of an action row, and a call with its rows.
-- A text is a list of bytes.
use Rattle.std.specs.Prelude.{ℕ, zero, suc, ◌+◌, ◌*◌, List, [], ◌∷◌, ◌++◌, drop, take, get_or}
use Rattle.machine.specs.Constants.{row_words}
use Rattle.columns.specs.Columns.{right}

-- a call's line: call, refusal or 0, and action count in 6, 4 and 4 columns, and a line feed
unfoldable pub call_line : ℕ → ℕ → ℕ → List ℕ
call_line call refusal actions = right 6 call ++ right 4 refusal ++ right 4 actions ++ (10 ∷ [])

-- a row's line: machine, kind, flags, timer, timeout and duration in 4, 4, 4, 4, 12 and 12 columns, and a line feed
unfoldable pub row_line : List ℕ → List ℕ
row_line row =
    right 4 (get_or row 0 0)
    ++ right 4 (get_or row 1 0)
    ++ right 4 (get_or row 2 0)
    ++ right 4 (get_or row 3 0)
    ++ right 12 (get_or row 4 0)
    ++ right 12 (get_or row 5 0)
    ++ (10 ∷ [])

-- a text with the line of row i from the byte `at` on
unfoldable pub row_in : ℕ → List ℕ → ℕ → List ℕ → List ℕ
row_in at rows i out = take at out ++ (row_line (drop (row_words * i) rows) ++ drop (at + 41) out)

-- the lines of the first n rows
unfoldable pub row_lines : ℕ → List ℕ → List ℕ
row_lines zero rows = []
row_lines (suc n) rows = row_lines n rows ++ row_line (drop (row_words * n) rows)

-- what a call prints: its line, and then the line of each action's row
unfoldable pub call_text : ℕ → ℕ → ℕ → List ℕ → List ℕ
call_text call refusal actions rows = call_line call refusal actions ++ row_lines actions rows
