-- What is written reads back, and what is read is what would be written.
pub mod Form
pub mod Calls
use Rattle.std.specs.Prelude.{ℕ, ◌*◌, ◌/◌, ◌≤◌, ◌≡◌, true, List, ◌↔◌, length, take, drop}
use Rattle.std.proofs.Common.{arith, take_at}
use Rattle.std.proofs.Math.Seq.{take-append_seam}
use Rattle.machine.specs.Constants.{machine_words, state_words, transition_words}
use Rattle.sheet.specs.Sheet.{sheet_of}
use Rattle.sheet.specs.Writer.{over, sheet_write}
use Rattle.sheet.specs.Reader.{machine_lines, state_lines, transition_lines, form_of, Read, sheet_read}
pub use Rattle.cells.specs.RoundTrip.U64.{Words}
pub use Form.{machines_of, states_of, transitions_of, sheet_is_whole, whole_is_sheet, tables_are_sound}
use Form.{Sound}
use Form.{machines_counted, states_counted, transitions_counted, machines_read, states_read, transitions_read}
use Form.{length-machines, length-states, length-transitions}
use Calls.{write_accepted, writes, read_accepted, form_passed, not_refused_read, reads}

-- THEOREM: the form passes exactly for the sheets of tables of whole rows of words.
pub whole_exactly : (sheet : List ℕ) → ((form_of sheet).whole ≡ true)
    ↔ ((m : List ℕ) × (s : List ℕ) × (t : List ℕ) × Sound m s t × (sheet_of m s t ≡ sheet))
whole_exactly sheet = (
  λ h. (machines_of sheet, states_of sheet, transitions_of sheet, tables_are_sound sheet, whole_is_sheet sheet h),
  λ x. rw (← x.4, sheet_is_whole x.0 x.1 x.2 x.3),
)

-- these tables, read into m, s and t: their rows are counted, and what lies behind them stays
abbrev pub read_as : List ℕ → List ℕ → List ℕ → List ℕ → List ℕ → List ℕ → Read
read_as machines states transitions m s t = record {
  answer = record {
    refusal = 0;
    machines = length machines / machine_words;
    states = length states / state_words;
    transitions = length transitions / transition_words;
  };
  machines = over machines m;
  states = over states s;
  transitions = over transitions t;
}

-- the sheet of sound tables is read as them, where there is room
reads_sheet : (machines states transitions m s t : List ℕ) → Sound machines states transitions
    → length machines ≤ length m → length states ≤ length s → length transitions ≤ length t
    → sheet_read (sheet_of machines states transitions) m s t
    ≡ read_as machines states transitions m s t
reads_sheet machines states transitions m s t k lm ls lt =
    let sheet = sheet_of machines states transitions in
    let f = sheet_is_whole machines states transitions k in
    let r = not_refused_read sheet m s t (rw f) (rw f (omega arith)) (rw f (omega arith)) (rw f (omega arith)) in
    rw (
      reads sheet m s t r,
      machines_read machines states transitions k,
      states_read machines states transitions k,
      transitions_read machines states transitions k,
      machines_counted machines states transitions k,
      states_counted machines states transitions k,
      transitions_counted machines states transitions k,
    )

-- THEOREM: a written sheet, given room, reads back to the same tables.
pub written_reads_back : (machines states transitions sheet m s t : List ℕ)
    → Words machines → Words states → Words transitions
    → (sheet_write machines states transitions sheet).answer.refusal ≡ 0
    → length machines ≤ length m → length states ≤ length s → length transitions ≤ length t
    → (
    let W = sheet_write machines states transitions sheet in
    sheet_read (take W.answer.bytes W.sheet) m s t)
    ≡ read_as machines states transitions m s t
written_reads_back machines states transitions sheet m s t wm ws wt h lm ls lt =
    let a = write_accepted machines states transitions sheet h wm ws wt in
    let text = sheet_of machines states transitions in
    rw (writes machines states transitions sheet a.0 a.1, take-append_seam text (drop (length text) sheet))
    (reads_sheet machines states transitions m s t a.0 lm ls lt)

-- THEOREM: an accepted sheet is the one that the writer would write for the tables read.
pub accepted_is_written : (sheet m s t out : List ℕ)
    → (sheet_read sheet m s t).answer.refusal ≡ 0
    → length sheet ≤ length out
    → (
    let R = sheet_read sheet m s t in
    sheet_write (take (machine_words * R.answer.machines) R.machines)
    (take (state_words * R.answer.states) R.states)
    (take (transition_words * R.answer.transitions) R.transitions)
    out)
    ≡ record { answer = record { refusal = 0; bytes = length sheet }; sheet = over sheet out }
accepted_is_written sheet m s t out h l =
    let r = read_accepted sheet m s t h in
    let M = machines_of sheet in
    let S = states_of sheet in
    let T = transitions_of sheet in
    let e : sheet_of M S T ≡ sheet = whole_is_sheet sheet (form_passed sheet m s t r) in
    let w = writes M S T out (tables_are_sound sheet) (rw e l) in
    rw (
      reads sheet m s t r,
      take_at M (drop (length M) m) (machine_words * machine_lines sheet) (length-machines sheet),
      take_at S (drop (length S) s) (state_words * state_lines sheet) (length-states sheet),
      take_at T (drop (length T) t) (transition_words * transition_lines sheet) (length-transitions sheet),
      w,
      e,
    )
