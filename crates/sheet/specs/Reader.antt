-- What the reader answers and leaves. It judges the sheet's form only. 22: a malformed or misplaced line; 23: a lent table is
-- too small, looked at only where the form has passed.
use Rattle.std.specs.Prelude.{ℕ, ◌*◌, Bool, cond, ◌&&◌, List, ◌≡◌, eqb, leb, length}
use Rattle.machine.specs.Constants.{machine_words, state_words, transition_words}
use Rattle.lines.specs.Lines.{lines, table_of, behind}
use Rattle.sheet.specs.Sheet.{machine_kind, state_kind, transition_kind}
use Rattle.sheet.specs.Writer.{over}
use Rattle.sheet.specs.declared.SheetRows.{SheetRows}
use Rattle.sheet.specs.declared.reading.Rows.{Rows}

-- the lines of each kind, and what stands behind them
unfoldable pub machine_lines : List ℕ → ℕ
machine_lines sheet = lines machine_kind machine_words sheet

unfoldable pub behind_machines : List ℕ → List ℕ
behind_machines sheet = behind machine_words (machine_lines sheet) sheet

unfoldable pub state_lines : List ℕ → ℕ
state_lines sheet = lines state_kind state_words (behind_machines sheet)

unfoldable pub behind_states : List ℕ → List ℕ
behind_states sheet = behind state_words (state_lines sheet) (behind_machines sheet)

unfoldable pub transition_lines : List ℕ → ℕ
transition_lines sheet = lines transition_kind transition_words (behind_states sheet)

unfoldable pub behind_transitions : List ℕ → List ℕ
behind_transitions sheet = behind transition_words (transition_lines sheet) (behind_states sheet)

-- the three counts, and whether the lines are all of the sheet
pub record Form : Type 0 where
  pub machines : ℕ
  pub states : ℕ
  pub transitions : ℕ
  pub whole : Bool

unfoldable pub form_of : List ℕ → Form
form_of sheet = record {
  machines = machine_lines sheet;
  states = state_lines sheet;
  transitions = transition_lines sheet;
  whole = eqb (length (behind_transitions sheet)) 0;
}

-- the counts alone
abbrev pub rows_in : Form → Rows
rows_in form = record { machines = form.machines; states = form.states; transitions = form.transitions }

-- tables of so many words have room for the rows
unfoldable pub room_for : Rows → ℕ → ℕ → ℕ → Bool
room_for rows machines states transitions =
    leb (machine_words * rows.machines) machines
    && (leb (state_words * rows.states) states && leb (transition_words * rows.transitions) transitions)

-- the refusal of a sheet, or 0
unfoldable pub read_refusal : List ℕ → List ℕ → List ℕ → List ℕ → ℕ
read_refusal sheet machines states transitions =
    let rows = form_of sheet in
    cond rows.whole (cond (room_for (rows_in rows) (length machines) (length states) (length transitions)) 0 23) 22

-- the answer of a refused sheet
abbrev pub no_rows : ℕ → SheetRows
no_rows refusal = record { refusal = refusal; machines = 0; states = 0; transitions = 0 }

-- the answer, and the tables as the call leaves them
pub record Read : Type 0 where
  pub answer : SheetRows
  pub machines : List ℕ
  pub states : List ℕ
  pub transitions : List ℕ

unfoldable pub sheet_read : List ℕ → List ℕ → List ℕ → List ℕ → Read
sheet_read sheet machines states transitions =
    let rows = form_of sheet in
    let refusal = read_refusal sheet machines states transitions in
    cond (eqb refusal 0)
    (record {
      answer = record { refusal = 0; machines = rows.machines; states = rows.states; transitions = rows.transitions };
      machines = over (table_of machine_words rows.machines sheet) machines;
      states = over (table_of state_words rows.states (behind_machines sheet)) states;
      transitions = over (table_of transition_words rows.transitions (behind_states sheet)) transitions;
    })
    (record {
      answer = no_rows refusal;
      machines = machines;
      states = states;
      transitions = transitions;
    })

-- a call on these tables gives the answer r and leaves the tables m, s and t
abbrev pub Reads : List ℕ → List ℕ → List ℕ → List ℕ → SheetRows → List ℕ → List ℕ → List ℕ → Type 0
Reads sheet machines states transitions r m s t =
    let R = sheet_read sheet machines states transitions in
    (r ≡ R.answer) × (m ≡ R.machines) × (s ≡ R.states) × (t ≡ R.transitions)
