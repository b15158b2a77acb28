-- The line that the program writes for a sheet: the reader's answer, and the refusal that an opening gives for the tables read.
use Rattle.std.specs.Prelude.{ℕ, ◌*◌, ◌/◌, cond, List, [], ◌∷◌, ◌++◌, ltb, length, take, replicate}
use Rattle.machine.specs.Constants.{machine_words, state_words, transition_words}
use Rattle.tables.specs.Machine.{tables_refusal}
use Rattle.columns.specs.Columns.{right}
use Rattle.lines.specs.Lines.{line_bytes}
use Rattle.sheet.specs.Reader.{no_rows, sheet_read}
use Rattle.sheet.specs.declared.SheetRows.{SheetRows}

-- refusal, machines, states and transitions, and the tables' refusal in 4, 8, 8, 8 and 4 columns, and a line feed
unfoldable pub verdict_line : SheetRows → ℕ → List ℕ
verdict_line r tables =
    right 4 r.refusal
    ++ right 8 r.machines
    ++ right 8 r.states
    ++ right 8 r.transitions
    ++ right 4 tables
    ++ (10 ∷ [])

abbrev pub line_length : ℕ
line_length = 33

-- the sheet is read into these tables, and the rows read are judged as an opening judges them; of a refused sheet there are none
unfoldable pub judged_line : List ℕ → List ℕ → List ℕ → List ℕ → List ℕ
judged_line sheet machines states transitions =
    let R = sheet_read sheet machines states transitions in
    let a = R.answer in
    verdict_line a
    (tables_refusal
    (take (machine_words * a.machines) R.machines)
    (take (state_words * a.states) R.states)
    (take (transition_words * a.transitions) R.transitions))

-- the largest sheet that the program reads, and the words of as many rows as it can have
abbrev pub sheet_room : ℕ
sheet_room = 262144

abbrev pub room_of : ℕ → List ℕ
room_of words = replicate (sheet_room / line_bytes words * words) 0

-- the line of a sheet; a larger one is refused as 23
unfoldable pub report_line : List ℕ → List ℕ
report_line sheet =
    cond (ltb sheet_room (length sheet))
    (verdict_line (no_rows 23) 0)
    (judged_line sheet (room_of machine_words) (room_of state_words) (room_of transition_words))
