-- The lines of a table at the front of a text: those that are written are counted and read back, with what stands behind
-- them, and those that are counted are what is written for the table that they read as.
use Rattle.std.specs.Prelude.{ℕ, zero, suc, ◌+◌, ◌-◌, ◌*◌, ◌/◌, ◌%◌, ◌≤◌, ◌<◌, ◌≡◌, false, List, [], ◌∷◌, ◌++◌, take, drop}
use Rattle.std.proofs.Math.Path.{ap}
use Rattle.std.proofs.Common.{◌∙◌, append_assoc, le-div_iff_mul-le, take-append-drop, take_at, take-take}
use native.Mathlib.Omega.{arith}
use Rattle.std.proofs.Math.Nat.{div-add-mod, div-eq_of_eq-mul_right}
use Rattle.std.proofs.Math.ListN.{length, length-append}
use Rattle.std.proofs.Math.Seq.{drop_at}
use Rattle.columns.specs.Columns.{right}
use Rattle.columns.proofs.Fits.{length-right}
use Rattle.machine.specs.Same.{same}
use Rattle.cells.specs.Cells.{each, cells, leading}
use Rattle.cells.specs.Laws.{length-each}
use Rattle.cells.specs.RoundTrip.U64.{Words}
use Rattle.cells.specs.RoundTrip.Pieces.{Found, leading_none, leading_written, table_written, found}
use Rattle.lines.specs.Lines.{kind_columns, line_bytes, line_of, lines_of, is_line, words_of, lines, table_of, behind}
use Rattle.lines.specs.RoundTrip.Lines.{kept, exact}

-- ---- what a text begins with

-- a text does not begin with this kind
abbrev pub Unlike : ℕ → List ℕ → Type 0
Unlike kind text = same (take kind_columns text) (right kind_columns kind) ≡ false

-- so no line of the kind does
unlike_fails : (kind w : ℕ) (text : List ℕ) → Unlike kind text → is_line kind w (take (line_bytes w) text) ≡ false
unfolding is_line
unlike_fails kind w text h = rw (take-take kind_columns (line_bytes w) text (omega arith), h)

-- nor do lines of another kind, before such a text
unlike_each : (kind other w n : ℕ) (table rest : List ℕ)
    → same (right kind_columns other) (right kind_columns kind) ≡ false
    → Unlike kind rest → Unlike kind (each (line_of other) w n table ++ rest)
unfolding each line_of
unlike_each kind other w zero table rest h u = u
unlike_each kind other w (suc n) table rest h u =
    let front = right kind_columns other in
    let line = cells (take w table) ++ (10 ∷ []) in
    let more = each (line_of other) w n (drop w table) in
    rw (
      append_assoc (front ++ line) more rest,
      append_assoc front line (more ++ rest),
      take_at front (line ++ (more ++ rest)) kind_columns (length-right kind_columns other),
    )
    h

pub unlike_lines : (kind other w : ℕ) (table rest : List ℕ)
    → same (right kind_columns other) (right kind_columns kind) ≡ false
    → Unlike kind rest → Unlike kind (lines_of other w table ++ rest)
unfolding lines_of
unlike_lines kind other w table rest = unlike_each kind other w (length table / w) table rest

-- ---- a table that is written

-- a line for each whole row
pub length-lines : (kind w : ℕ) (table : List ℕ) → length (lines_of kind w table) ≡ line_bytes w * (length table / w)
unfolding lines_of
length-lines kind w table =
    length-each (line_of kind) w (line_bytes w) (kept kind w).long (length table / w) table
    (omega (arith, div-add-mod (length table) w))

-- whole rows
rows_of : (w : ℕ) (table : List ℕ) → length table % w ≡ 0 → length table ≡ w * (length table / w)
rows_of w table h = omega (arith, div-add-mod (length table) w)

module _ (kind w : ℕ) (table : List ℕ) (whole : length table % w ≡ 0) where
  -- the lines of a table are counted, where at least as many are looked at
  counted : (most : ℕ) (rest : List ℕ) → Words table → Unlike kind rest → length table / w ≤ most
      → leading (is_line kind w) (line_bytes w) most (lines_of kind w table ++ rest) ≡ length table / w
  unfolding lines_of
  counted most rest h u l =
      let n = length table / w in
      let text = each (line_of kind) w n table ++ rest in
      let e : most ≡ n + (most - n) = omega arith in
      ap (λ (k : ℕ). leading (is_line kind w) (line_bytes w) k text) e
      ∙ leading_written (line_of kind) (words_of w) (is_line kind w) w (line_bytes w) (kept kind w) n (most - n) table rest
      (rows_of w table whole) h
      ∙ omega (arith, leading_none (is_line kind w) (line_bytes w) (most - n) rest (unlike_fails kind w rest u))

  -- as they are in the whole text
  pub lines_written : (rest : List ℕ) → Words table → Unlike kind rest
      → lines kind w (lines_of kind w table ++ rest) ≡ length table / w
  unfolding lines
  lines_written rest h u =
      let text = lines_of kind w table ++ rest in
      let n = length table / w in
      let room : n * line_bytes w ≤ length text =
      omega (arith, length-append (lines_of kind w table) rest, length-lines kind w table) in
      counted (length text / line_bytes w) rest h u ((le-div_iff_mul-le {k = line_bytes w} (omega arith)).1 room)

  -- read back
  pub table_read : (rest : List ℕ) → Words table → table_of w (length table / w) (lines_of kind w table ++ rest) ≡ table
  unfolding table_of lines_of
  table_read rest h =
      table_written (line_of kind) (words_of w) (is_line kind w) w (line_bytes w) (kept kind w) (length table / w) table rest
      (rows_of w table whole) h

  -- and followed by what stands behind them
  pub behind_written : (rest : List ℕ) → behind w (length table / w) (lines_of kind w table ++ rest) ≡ rest
  unfolding behind
  behind_written rest = drop_at (lines_of kind w table) rest (line_bytes w * (length table / w)) (length-lines kind w table)

-- ---- a table that is read

module _ (kind w : ℕ) (text : List ℕ) where
  read : Found (line_of kind) (words_of w) w (line_bytes w) text (lines kind w text)
  unfolding lines
  read = found (line_of kind) (words_of w) (is_line kind w) w (line_bytes w) (exact kind w) (length text / line_bytes w) text

  -- it has a row for each line
  pub length-table : length (table_of w (lines kind w text) text) ≡ w * lines kind w text
  unfolding table_of
  length-table = read.sized

  -- of words
  pub words_table : Words (table_of w (lines kind w text) text)
  unfolding table_of
  words_table = read.words

  -- and its lines are those that were read
  lines-again : 0 < w → lines_of kind w (table_of w (lines kind w text) text) ≡ take (line_bytes w * lines kind w text) text
  unfolding lines_of table_of
  lines-again p =
      let table = each (words_of w) (line_bytes w) (lines kind w text) text in
      ap (λ (n : ℕ). each (line_of kind) w n table) (div-eq_of_eq-mul_right p read.sized) ∙ read.again

  -- so a text is these lines and what stands behind them
  pub split : 0 < w → lines_of kind w (table_of w (lines kind w text) text) ++ behind w (lines kind w text) text ≡ text
  unfolding behind
  split p = rw (lines-again p) (take-append-drop (line_bytes w * lines kind w text) text)
