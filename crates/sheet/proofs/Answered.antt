-- What the reader and the writer answer and leave, from what was judged and put.
use Prim.Native.Nat.{ℕ, ◌*◌, ◌/◌, ◌≤◌}
use mathlib.Core.Path.{◌≡◌, refl, sym, ap, ◌∙◌}
use mathlib.Core.Bool.{Bool, true, false, cond, ◌&&◌, and-eq-true_iff}
use mathlib.Core.List.{List, ◌++◌}
use lib.ListN.{length, drop}
use borrow.Author.Tests.{leb-true}
use lib.Dec.{leb}
use Rattle.machine.specs.Constants.{machine_words, state_words, transition_words}
use Rattle.lines.specs.Lines.{table_of}
use Rattle.sheet.specs.Sheet.{bytes_of, sheet_of}
use Rattle.sheet.specs.Writer.{whole_rows, write_refusal, over, Written, sheet_write, Writes}
use Rattle.sheet.specs.Reader.{machine_lines, state_lines, transition_lines, behind_machines, behind_states, rows_in, form_of, room_for, read_refusal, no_rows, Read, sheet_read, Reads}
use Rattle.sheet.proofs.RoundTrip.Form.{length-machines, length-states, length-transitions}
use Rattle.sheet.proofs.RoundTrip.Calls.{reads}
use Rattle.sheet.specs.declared.SheetRows.{SheetRows}
use Rattle.sheet.specs.declared.SheetBytes.{SheetBytes}
use Rattle.sheet.specs.declared.reading.Rows.{Rows}
use Rattle.sheet.specs.Steps.{judged}
use Rattle.std.specs.Prelude.{Ok, Err}
use Rattle.refusal.specs.Refusal.{number}
use Rattle.refusal.specs.declared.Refusal.{Refusal}
use Rattle.refusal.specs.declared.Refusal.TheVariants as R
use Rattle.sheet.proofs.Written.{length-sheet}

-- ---- the reader

-- rows that fit
pub fits : (rows : Rows) (m s t : ℕ) → room_for rows m s t ≡ true
    → (machine_words * rows.machines ≤ m) × (state_words * rows.states ≤ s) × (transition_words * rows.transitions ≤ t)
unfolding room_for
fits rows m s t h =
    let a = leb (machine_words * rows.machines) m in
    let b = leb (state_words * rows.states) s in
    let c = leb (transition_words * rows.transitions) t in
    let g = (and-eq-true_iff a (b && c)).0 h in
    let k = (and-eq-true_iff b c).0 g.1 in
    (leb-true _ _ g.0, leb-true _ _ k.0, leb-true _ _ k.1)

module _ (sheet m s t : List ℕ) where
  leaves : (r : SheetRows) (x y z : List ℕ)
      → sheet_read sheet m s t ≡ record { answer = r; machines = x; states = y; transitions = z }
      → Reads sheet m s t r x y z
  leaves r x y z e = (
    sym (ap (λ (q : Read). q.answer) e),
    sym (ap (λ (q : Read). q.machines) e),
    sym (ap (λ (q : Read). q.states) e),
    sym (ap (λ (q : Read). q.transitions) e),
  )

  -- what the judgement says of the form
  pub passed : (rows : Rows) → Ok rows ≡ judged sheet → ((form_of sheet).whole ≡ true) × (rows ≡ rows_in (form_of sheet))
  unfolding judged
  passed rows h = by-whole (form_of sheet).whole refl h
    where
      by-whole : (b : Bool) → (form_of sheet).whole ≡ b → Ok rows ≡ cond b (Ok (rows_in (form_of sheet))) (Err R.BadLine)
          → ((form_of sheet).whole ≡ true) × (rows ≡ rows_in (form_of sheet))
      by-whole true w g = (w, cc)
      by-whole false w g = cc

  pub malformed : (e : Refusal) → Err e ≡ judged sheet → Reads sheet m s t (no_rows (number e)) m s t
  unfolding judged sheet_read read_refusal
  malformed e h = by-whole (form_of sheet).whole refl h
    where
      by-whole : (b : Bool) → (form_of sheet).whole ≡ b → Err e ≡ cond b (Ok (rows_in (form_of sheet))) (Err R.BadLine)
          → Reads sheet m s t (no_rows (number e)) m s t
      by-whole true w g = cc
      by-whole false w g =
          let k : e ≡ R.BadLine = cc in
          leaves (no_rows (number e)) m s t (rw (w, k))

  pub no_room : (rows : Rows) → Ok rows ≡ judged sheet
      → room_for rows (length m) (length s) (length t) ≡ false
      → Reads sheet m s t (no_rows 23) m s t
  unfolding sheet_read read_refusal
  no_room rows h f =
      let p = passed rows h in
      leaves (no_rows 23) m s t (rw (p.0, rw p.1 at f))

  accepted : (rows : Rows) → Ok rows ≡ judged sheet
      → room_for rows (length m) (length s) (length t) ≡ true
      → read_refusal sheet m s t ≡ 0
  unfolding read_refusal
  accepted rows h f =
      let p = passed rows h in
      rw (p.0, rw p.1 at f)

  pub read_rows : (rows : Rows) (x y z : List ℕ) → Ok rows ≡ judged sheet
      → room_for rows (length m) (length s) (length t) ≡ true
      → x ≡ table_of machine_words rows.machines sheet ++ drop (machine_words * rows.machines) m
      → y ≡ table_of state_words rows.states (behind_machines sheet) ++ drop (state_words * rows.states) s
      → z ≡ table_of transition_words rows.transitions (behind_states sheet) ++ drop (transition_words * rows.transitions) t
      → Reads sheet m s t (record { refusal = 0; machines = rows.machines; states = rows.states; transitions = rows.transitions }) x y z
  unfolding form_of
  read_rows rows x y z h f ex ey ez =
      let is = (passed rows h).1 in
      let a : rows.machines ≡ machine_lines sheet = ap (λ (q : Rows). q.machines) is in
      let b : rows.states ≡ state_lines sheet = ap (λ (q : Rows). q.states) is in
      let c : rows.transitions ≡ transition_lines sheet = ap (λ (q : Rows). q.transitions) is in
      leaves _ x y z
      (reads sheet m s t (accepted rows h f)
      ∙ rw (ex, ey, ez, a, b, c, length-machines sheet, length-states sheet, length-transitions sheet))

-- ---- the writer

module _ (m s t sheet : List ℕ) where
  writes : (r : SheetBytes) (x : List ℕ) → sheet_write m s t sheet ≡ record { answer = r; sheet = x } → Writes m s t sheet r x
  writes r x e = (sym (ap (λ (q : Written). q.answer) e), sym (ap (λ (q : Written). q.sheet) e))

  abbrev lines_fit : Bool
  lines_fit = leb (bytes_of (length m / machine_words) (length s / state_words) (length t / transition_words)) (length sheet)

  -- room for the lines is room for the sheet
  room : leb (length (sheet_of m s t)) (length sheet) ≡ lines_fit
  room = rw (length-sheet m s t)

  pub not_rows : whole_rows (length m) (length s) (length t) ≡ false → Writes m s t sheet (record { refusal = 3; bytes = 0 }) sheet
  unfolding sheet_write write_refusal
  not_rows w = writes _ _ (rw w)

  pub no_space : whole_rows (length m) (length s) (length t) ≡ true → lines_fit ≡ false
      → Writes m s t sheet (record { refusal = 23; bytes = 0 }) sheet
  unfolding sheet_write write_refusal
  no_space w f = writes _ _ (rw (w, room ∙ f))

  pub written_out : (r : ℕ) (x : List ℕ) → whole_rows (length m) (length s) (length t) ≡ true → lines_fit ≡ true
      → r ≡ length (sheet_of m s t)
      → x ≡ over (sheet_of m s t) sheet
      → Writes m s t sheet (record { refusal = 0; bytes = r }) x
  unfolding sheet_write write_refusal
  written_out r x w f er ex = writes _ _ (rw (w, room ∙ f, er, ex))
