-- The calls of the writer and of the reader: what is known where one is not refused, and what it then answers and leaves.
use Rattle.std.specs.Prelude.{ℕ, ◌*◌, ◌%◌, ◌≤◌, ◌≡◌, Bool, ◌&&◌, List, length}
use Rattle.std.proofs.Math.Path.{refl}
use Rattle.std.proofs.Math.Bool.{true, false, and-eq-true_iff}
use Rattle.std.proofs.Common.{arith}
use Rattle.std.proofs.Math.Dec.{eqb, leb}
use borrow.Author.Tests.{eqb-true, leb-true, le-leb}
use Rattle.machine.specs.Constants.{machine_words, state_words, transition_words}
use Rattle.cells.specs.RoundTrip.U64.{Words}
use Rattle.sheet.specs.Sheet.{sheet_of}
use Rattle.sheet.specs.Writer.{whole_rows, write_refusal, over, sheet_write}
use Rattle.sheet.specs.Reader.{machine_lines, state_lines, transition_lines, form_of, rows_in, room_for, read_refusal, sheet_read}
use Rattle.sheet.proofs.RoundTrip.Form.{Sound, machines_of, states_of, transitions_of}

-- ---- the writer

module _ (m s t sheet : List ℕ) where
  not-refused : (sheet_write m s t sheet).answer.refusal ≡ 0 → write_refusal m s t sheet ≡ 0
  unfolding sheet_write
  not-refused h = by_test (eqb (write_refusal m s t sheet) 0) refl
    where
      by_test : (b : Bool) → eqb (write_refusal m s t sheet) 0 ≡ b → write_refusal m s t sheet ≡ 0
      by_test true e = eqb-true (write_refusal m s t sheet) 0 e
      by_test false e = rw e at h

  -- both tests have passed
  tests-passed : write_refusal m s t sheet ≡ 0
      → (whole_rows (length m) (length s) (length t) ≡ true) × (leb (length (sheet_of m s t)) (length sheet) ≡ true)
  unfolding write_refusal
  tests-passed h =
      by_tests (whole_rows (length m) (length s) (length t)) refl (leb (length (sheet_of m s t)) (length sheet)) refl
    where
      by_tests : (a : Bool) → whole_rows (length m) (length s) (length t) ≡ a
          → (b : Bool) → leb (length (sheet_of m s t)) (length sheet) ≡ b
          → (a ≡ true) × (b ≡ true)
      by_tests true e true f = (refl, refl)
      by_tests true e false f = absurd (omega (arith, simp (e, f) at h))
      by_tests false e true f = absurd (omega (arith, simp (e, f) at h))
      by_tests false e false f = absurd (omega (arith, simp (e, f) at h))

  -- the tables are whole rows, and their sheet has room
  pub write_accepted : (sheet_write m s t sheet).answer.refusal ≡ 0 → Words m → Words s → Words t
      → Sound m s t × (length (sheet_of m s t) ≤ length sheet)
  unfolding whole_rows
  write_accepted h wm ws wt =
      let a = eqb (length m % machine_words) 0 in
      let b = eqb (length s % state_words) 0 in
      let c = eqb (length t % transition_words) 0 in
      let g = tests-passed (not-refused h) in
      let ab = (and-eq-true_iff a (b && c)).0 g.0 in
      let bc = (and-eq-true_iff b c).0 ab.1 in (
        record {
          machine_rows_lem = eqb-true (length m % machine_words) 0 ab.0;
          state_rows_lem = eqb-true (length s % state_words) 0 bc.0;
          transition_rows_lem = eqb-true (length t % transition_words) 0 bc.1;
          machine_words_lem = wm;
          state_words_lem = ws;
          transition_words_lem = wt;
        },
        leb-true (length (sheet_of m s t)) (length sheet) g.1,
      )

  pub writes : Sound m s t → length (sheet_of m s t) ≤ length sheet
      → sheet_write m s t sheet
      ≡ record { answer = record { refusal = 0; bytes = length (sheet_of m s t) }; sheet = over (sheet_of m s t) sheet }
  unfolding sheet_write write_refusal whole_rows
  writes k l = rw (k.machine_rows_lem, k.state_rows_lem, k.transition_rows_lem, le-leb (length (sheet_of m s t)) (length sheet) l)

-- ---- the reader

module _ (sheet m s t : List ℕ) where
  pub read_accepted : (sheet_read sheet m s t).answer.refusal ≡ 0 → read_refusal sheet m s t ≡ 0
  unfolding sheet_read
  read_accepted h = by_test (eqb (read_refusal sheet m s t) 0) refl
    where
      by_test : (b : Bool) → eqb (read_refusal sheet m s t) 0 ≡ b → read_refusal sheet m s t ≡ 0
      by_test true e = eqb-true (read_refusal sheet m s t) 0 e
      by_test false e = rw e at h

  -- the form has passed
  pub form_passed : read_refusal sheet m s t ≡ 0 → (form_of sheet).whole ≡ true
  unfolding read_refusal
  form_passed h =
      by_tests (form_of sheet).whole refl (room_for (rows_in (form_of sheet)) (length m) (length s) (length t)) refl
    where
      by_tests : (a : Bool) → (form_of sheet).whole ≡ a
          → (b : Bool) → room_for (rows_in (form_of sheet)) (length m) (length s) (length t) ≡ b
          → a ≡ true
      by_tests true e b f = refl
      by_tests false e true f = absurd (omega (arith, simp (e, f) at h))
      by_tests false e false f = absurd (omega (arith, simp (e, f) at h))

  -- the form passes, and the tables have room
  pub not_refused_read : (form_of sheet).whole ≡ true → machine_words * (form_of sheet).machines ≤ length m
      → state_words * (form_of sheet).states ≤ length s → transition_words * (form_of sheet).transitions ≤ length t
      → read_refusal sheet m s t ≡ 0
  unfolding read_refusal room_for
  not_refused_read w lm ls lt =
      rw (
        le-leb (machine_words * (form_of sheet).machines) (length m) lm,
        le-leb (state_words * (form_of sheet).states) (length s) ls,
        le-leb (transition_words * (form_of sheet).transitions) (length t) lt,
        w,
      )

  pub reads : read_refusal sheet m s t ≡ 0
      → sheet_read sheet m s t
      ≡ record {
        answer = record {
          refusal = 0;
          machines = machine_lines sheet;
          states = state_lines sheet;
          transitions = transition_lines sheet;
        };
        machines = over (machines_of sheet) m;
        states = over (states_of sheet) s;
        transitions = over (transitions_of sheet) t;
      }
  unfolding sheet_read form_of
  reads h = rw h
