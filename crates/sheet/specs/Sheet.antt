-- The sheet of three tables: a line for each row, the machines' first, then the states', then the transitions'. A text is a
-- list of bytes.
use Rattle.std.specs.Prelude.{ℕ, ◌+◌, ◌*◌, List, ◌++◌}
use Rattle.machine.specs.Constants.{machine_words, state_words, transition_words}
use Rattle.lines.specs.Lines.{line_bytes, lines_of}

-- the row kinds
abbrev pub machine_kind : ℕ
machine_kind = 1

abbrev pub state_kind : ℕ
state_kind = 2

abbrev pub transition_kind : ℕ
transition_kind = 3

-- the bytes of the lines of so many rows of each table
abbrev pub bytes_of : ℕ → ℕ → ℕ → ℕ
bytes_of machines states transitions =
    line_bytes machine_words * machines + (line_bytes state_words * states + line_bytes transition_words * transitions)

unfoldable pub sheet_of : List ℕ → List ℕ → List ℕ → List ℕ
sheet_of machines states transitions =
    lines_of machine_kind machine_words machines
    ++ (lines_of state_kind state_words states ++ lines_of transition_kind transition_words transitions)
