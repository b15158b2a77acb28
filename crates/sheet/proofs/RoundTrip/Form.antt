-- The form passes exactly for the sheets of tables of whole rows of words.
use Rattle.std.specs.Prelude.{ℕ, ◌*◌, ◌/◌, ◌%◌, ◌≡◌, refl, true, false, length}
use mathlib.Core.List.{List, [], ◌∷◌, ◌++◌, append-nil}
use Rattle.std.proofs.Common.{arith, lit<, eqb-true}
use Rattle.machine.specs.Constants.{machine_words, state_words, transition_words}
use Rattle.columns.specs.Digits.{digits, digits_by}
use Rattle.columns.specs.Columns.{right, fits}
use Rattle.machine.specs.Same.{same}
use Rattle.cells.specs.RoundTrip.U64.{Words}
use Rattle.lines.specs.Lines.{kind_columns, lines_of, table_of}
use Rattle.lines.specs.RoundTrip.Tables.{Unlike, unlike_lines, lines_written, table_read, behind_written, length-table, words_table, split}
use Rattle.sheet.specs.Sheet.{machine_kind, state_kind, transition_kind, sheet_of}
use Rattle.sheet.specs.Reader.{form_of, machine_lines, state_lines, transition_lines, behind_machines, behind_states, behind_transitions}

-- tables of whole rows of words
pub record Sound (m s t : List ℕ) : Type 0 where
  pub machine_rows_lem : length m % machine_words ≡ 0
  pub state_rows_lem : length s % state_words ≡ 0
  pub transition_rows_lem : length t % transition_words ≡ 0
  pub machine_words_lem : Words m
  pub state_words_lem : Words s
  pub transition_words_lem : Words t

-- ---- the sheet of tables

-- a line of a later kind does not begin as one of an earlier kind, nor does the end of the text as any
state_no_machine : same (right kind_columns state_kind) (right kind_columns machine_kind) ≡ false
unfolding same right fits digits digits_by
state_no_machine = refl

transition_no_machine : same (right kind_columns transition_kind) (right kind_columns machine_kind) ≡ false
unfolding same right fits digits digits_by
transition_no_machine = refl

transition_no_state : same (right kind_columns transition_kind) (right kind_columns state_kind) ≡ false
unfolding same right fits digits digits_by
transition_no_state = refl

end_no_machine : Unlike machine_kind []
unfolding same right fits digits digits_by
end_no_machine = refl

end_no_state : Unlike state_kind []
unfolding same right fits digits digits_by
end_no_state = refl

end_no_transition : Unlike transition_kind []
unfolding same right fits digits digits_by
end_no_transition = refl

-- the lines from the transitions on, and from the states on
abbrev transition_text : List ℕ → List ℕ
transition_text t = lines_of transition_kind transition_words t ++ []

abbrev state_text : List ℕ → List ℕ → List ℕ
state_text s t = lines_of state_kind state_words s ++ transition_text t

sheet_parts : (m s t : List ℕ) → sheet_of m s t ≡ lines_of machine_kind machine_words m ++ state_text s t
unfolding sheet_of
sheet_parts m s t = rw (append-nil (lines_of transition_kind transition_words t))

module _ (m s t : List ℕ) (k : Sound m s t) where
  pub machines_counted : machine_lines (sheet_of m s t) ≡ length m / machine_words
  unfolding machine_lines
  machines_counted =
      let u = unlike_lines machine_kind transition_kind transition_words t [] transition_no_machine end_no_machine in
      let v = unlike_lines machine_kind state_kind state_words s (transition_text t) state_no_machine u in
      rw (sheet_parts m s t)
      (lines_written machine_kind machine_words m k.machine_rows_lem (state_text s t) k.machine_words_lem v)

  machines-passed : behind_machines (sheet_of m s t) ≡ state_text s t
  unfolding behind_machines
  machines-passed =
      rw (machines_counted, sheet_parts m s t)
      (behind_written machine_kind machine_words m k.machine_rows_lem (state_text s t))

  pub states_counted : state_lines (sheet_of m s t) ≡ length s / state_words
  unfolding state_lines
  states_counted =
      let u = unlike_lines state_kind transition_kind transition_words t [] transition_no_state end_no_state in
      rw machines-passed (lines_written state_kind state_words s k.state_rows_lem (transition_text t) k.state_words_lem u)

  states-passed : behind_states (sheet_of m s t) ≡ transition_text t
  unfolding behind_states
  states-passed =
      rw (states_counted, machines-passed) (behind_written state_kind state_words s k.state_rows_lem (transition_text t))

  pub transitions_counted : transition_lines (sheet_of m s t) ≡ length t / transition_words
  unfolding transition_lines
  transitions_counted =
      rw states-passed
      (lines_written transition_kind transition_words t k.transition_rows_lem [] k.transition_words_lem end_no_transition)

  transitions-passed : behind_transitions (sheet_of m s t) ≡ []
  unfolding behind_transitions
  transitions-passed =
      rw (transitions_counted, states-passed) (behind_written transition_kind transition_words t k.transition_rows_lem [])

  -- THEOREM: the form of the sheet of tables of whole rows of words passes, with their rows.
  pub sheet_is_whole : form_of (sheet_of m s t)
      ≡ record {
        machines = length m / machine_words;
        states = length s / state_words;
        transitions = length t / transition_words;
        whole = true;
      }
  unfolding form_of
  sheet_is_whole = rw (machines_counted, states_counted, transitions_counted, transitions-passed)

-- the tables that a sheet is read as
abbrev pub machines_of : List ℕ → List ℕ
machines_of sheet = table_of machine_words (machine_lines sheet) sheet

abbrev pub states_of : List ℕ → List ℕ
states_of sheet = table_of state_words (state_lines sheet) (behind_machines sheet)

abbrev pub transitions_of : List ℕ → List ℕ
transitions_of sheet = table_of transition_words (transition_lines sheet) (behind_states sheet)

module _ (m s t : List ℕ) (k : Sound m s t) where
  pub machines_read : machines_of (sheet_of m s t) ≡ m
  machines_read =
      rw (machines_counted m s t k, sheet_parts m s t)
      (table_read machine_kind machine_words m k.machine_rows_lem (state_text s t) k.machine_words_lem)

  pub states_read : states_of (sheet_of m s t) ≡ s
  states_read =
      rw (states_counted m s t k, machines-passed m s t k)
      (table_read state_kind state_words s k.state_rows_lem (transition_text t) k.state_words_lem)

  pub transitions_read : transitions_of (sheet_of m s t) ≡ t
  transitions_read =
      rw (transitions_counted m s t k, states-passed m s t k)
      (table_read transition_kind transition_words t k.transition_rows_lem [] k.transition_words_lem)

-- ---- a sheet whose form passes

empty : (xs : List ℕ) → length xs ≡ 0 → xs ≡ []
empty [] h = refl
empty (x ∷ xs) h = absurd (omega (arith, h))

pub length-machines : (sheet : List ℕ) → length (machines_of sheet) ≡ machine_words * machine_lines sheet
unfolding machine_lines
length-machines sheet = length-table machine_kind machine_words sheet

pub length-states : (sheet : List ℕ) → length (states_of sheet) ≡ state_words * state_lines sheet
unfolding state_lines
length-states sheet = length-table state_kind state_words (behind_machines sheet)

pub length-transitions : (sheet : List ℕ) → length (transitions_of sheet) ≡ transition_words * transition_lines sheet
unfolding transition_lines
length-transitions sheet = length-table transition_kind transition_words (behind_states sheet)

-- THEOREM: the tables that any sheet is read as are whole rows of words.
pub tables_are_sound : (sheet : List ℕ) → Sound (machines_of sheet) (states_of sheet) (transitions_of sheet)
unfolding machine_lines state_lines transition_lines
tables_are_sound sheet = record {
  machine_rows_lem = omega (arith, length-machines sheet);
  state_rows_lem = omega (arith, length-states sheet);
  transition_rows_lem = omega (arith, length-transitions sheet);
  machine_words_lem = words_table machine_kind machine_words sheet;
  state_words_lem = words_table state_kind state_words (behind_machines sheet);
  transition_words_lem = words_table transition_kind transition_words (behind_states sheet);
}

-- each text is its lines and what stands behind them
machines_split : (sheet : List ℕ) → lines_of machine_kind machine_words (machines_of sheet) ++ behind_machines sheet ≡ sheet
unfolding machine_lines behind_machines
machines_split sheet = split machine_kind machine_words sheet (lit< tt)

states_split : (sheet : List ℕ)
    → lines_of state_kind state_words (states_of sheet) ++ behind_states sheet ≡ behind_machines sheet
unfolding state_lines behind_states
states_split sheet = split state_kind state_words (behind_machines sheet) (lit< tt)

transitions_split : (sheet : List ℕ)
    → lines_of transition_kind transition_words (transitions_of sheet) ++ behind_transitions sheet ≡ behind_states sheet
unfolding transition_lines behind_transitions
transitions_split sheet = split transition_kind transition_words (behind_states sheet) (lit< tt)

-- THEOREM: a sheet whose form passes is the sheet of the tables that it is read as.
pub whole_is_sheet : (sheet : List ℕ) → (form_of sheet).whole ≡ true
    → sheet_of (machines_of sheet) (states_of sheet) (transitions_of sheet) ≡ sheet
unfolding form_of
whole_is_sheet sheet h =
    let e : behind_transitions sheet ≡ [] = empty (behind_transitions sheet) (eqb-true (length (behind_transitions sheet)) 0 h) in
    rw (
      sheet_parts (machines_of sheet) (states_of sheet) (transitions_of sheet),
      ← e,
      transitions_split sheet,
      states_split sheet,
    )
    (machines_split sheet)
