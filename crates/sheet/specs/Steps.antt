-- What the steps within a call answer, and what the call then answers to C.
use Rattle.std.specs.Prelude.{ℕ, ◌/◌, cond, List, length, Result, Ok, Err}
use Rattle.machine.specs.Constants.{machine_words, state_words, transition_words}
use Rattle.refusal.specs.Refusal.{number}
use Rattle.refusal.specs.declared.Refusal.{Refusal}
use Rattle.refusal.specs.declared.Refusal.TheVariants as R
use Rattle.sheet.specs.Reader.{form_of, rows_in, no_rows}
use Rattle.sheet.specs.declared.SheetRows.{SheetRows}
use Rattle.sheet.specs.declared.SheetBytes.{SheetBytes}
use Rattle.sheet.specs.declared.reading.Rows.{Rows}

-- the rows of a sheet whose form passes
unfoldable pub judged : List ℕ → Result Rows Refusal
judged sheet = cond (form_of sheet).whole (Ok (rows_in (form_of sheet))) (Err R.BadLine)

-- the answer of a sheet that is read
abbrev pub counted : Rows → SheetRows
counted rows = record {
  refusal = 0;
  machines = rows.machines;
  states = rows.states;
  transitions = rows.transitions;
}

-- the rows of tables of whole rows
abbrev pub rows_of : List ℕ → List ℕ → List ℕ → Rows
rows_of machines states transitions = record {
  machines = length machines / machine_words;
  states = length states / state_words;
  transitions = length transitions / transition_words;
}

-- the reader's answer
abbrev pub read_answer : Result Rows Refusal → SheetRows
read_answer (Ok rows) = counted rows
read_answer (Err refusal) = no_rows (number refusal)

-- the writer's
abbrev pub written_answer : Result ℕ Refusal → SheetBytes
written_answer (Ok bytes) = record { refusal = 0; bytes = bytes }
written_answer (Err refusal) = record { refusal = number refusal; bytes = 0 }
