-- The line of a row: what is written for a row is a line, which reads back as it, and a line is what is written for its words.
use Prim.Native.Nat.{ℕ, zero, suc, ◌+◌, ◌*◌, ◌≤◌, ◌<◌}
use Rattle.std.specs.Prelude.{◌≡◌, refl, true, ◌&&◌, take}
use Rattle.std.proofs.Common.{◌∙◌, arith, lit<, length-append, take_at, drop_at}
use Rattle.std.proofs.Math.Bool.{and-eq-true_iff}
use mathlib.Core.List.{List, [], ◌∷◌, ◌++◌, append_assoc}
use Rattle.std.proofs.Math.Dec.{eqb}
use Rattle.std.proofs.Math.ListN.{length, drop, get_or, take-append-drop, drop_of_length-le}
use Rattle.std.proofs.lemmas.List.{get_or_at}
use Rattle.std.proofs.Math.Seq.{drop-drop, drop-cons}
use borrow.Author.Tests.{eqb-true, eq-eqb}
use Rattle.columns.specs.Columns.{right}
use Rattle.columns.proofs.Fits.{length-right, length-rights}
use Rattle.machine.specs.Same.{same, same_refl, same_true}
use Rattle.cells.specs.Cells.{word_columns, cells, leading, is_cell}
use Rattle.cells.specs.RoundTrip.U64.{Words}
use Rattle.cells.specs.RoundTrip.Cells.{row_found, row_read, row_again}
use Rattle.cells.specs.RoundTrip.Pieces.{Kept, Exact}
use Rattle.lines.specs.Lines.{kind_columns, line_bytes, line_of, is_line, words_of}

-- an element that is not 0 stands inside
inside : (xs : List ℕ) (i n : ℕ) → 0 < n → get_or xs i 0 ≡ n → i < length xs
inside [] i n l h = absurd (omega (arith, l, h))
inside (x ∷ xs) zero n l h = omega arith
inside (x ∷ xs) (suc i) n l h = omega (arith, inside xs i n l h)

-- ---- one line

-- what stands behind the kind
abbrev behind_kind : List ℕ → List ℕ
behind_kind row = cells row ++ (10 ∷ [])

length_line : (kind : ℕ) (row : List ℕ) → length (line_of kind row) ≡ line_bytes (length row)
unfolding line_of
length_line kind row =
    length-append (right kind_columns kind) (behind_kind row)
    ∙ omega (arith, length-right kind_columns kind, length-append (cells row) (10 ∷ []), length-rights word_columns row)

drop-kind : (kind : ℕ) (row : List ℕ) → drop kind_columns (line_of kind row) ≡ behind_kind row
unfolding line_of
drop-kind kind row = drop_at (right kind_columns kind) (behind_kind row) kind_columns (length-right kind_columns kind)

written_is_line : (kind : ℕ) (row : List ℕ) → Words row → is_line kind (length row) (line_of kind row) ≡ true
unfolding is_line line_of
written_is_line kind row h =
    let front = right kind_columns kind in
    let long : length front ≡ kind_columns = length-right kind_columns kind in
    let n : length (front ++ cells row) ≡ kind_columns + word_columns * length row =
    length-append front (cells row) ∙ omega (arith, long, length-rights word_columns row) in
    let feed : get_or (front ++ behind_kind row) (kind_columns + word_columns * length row) 0 ≡ 10 =
    rw (← (append_assoc front (cells row) (10 ∷ [])))
    (get_or_at (front ++ cells row) 10 [] 0 (kind_columns + word_columns * length row) n) in
    rw (
      take_at front (behind_kind row) kind_columns long,
      same_refl front,
      drop_at front (behind_kind row) kind_columns long,
      row_found row (10 ∷ []) h,
      eq-eqb (length row) (length row) refl,
      feed,
    )

written_reads : (kind : ℕ) (row : List ℕ) → Words row → words_of (length row) (line_of kind row) ≡ row
unfolding words_of
written_reads kind row h = rw (drop-kind kind row) (row_read row (10 ∷ []) h)

module _ (kind w : ℕ) where
  pub kept : Kept (line_of kind) (words_of w) (is_line kind w) w (line_bytes w)
  kept = record {
    long = λ row l. rw (← l) (length_line kind row);
    passes = λ row l h. rw (← l) (written_is_line kind row h);
    back = λ row l h. rw (← l) (written_reads kind row h);
  }

  -- the three tests of a line
  record Tests (line : List ℕ) : Type 0 where
    front : take kind_columns line ≡ right kind_columns kind
    middle : leading is_cell word_columns w (drop kind_columns line) ≡ w
    feed : get_or line (kind_columns + word_columns * w) 0 ≡ 10

  tests : (line : List ℕ) → is_line kind w line ≡ true → Tests line
  unfolding is_line
  tests line h =
      let count = leading is_cell word_columns w (drop kind_columns line) in
      let last = get_or line (kind_columns + word_columns * w) 0 in
      let a = (and-eq-true_iff (same (take kind_columns line) (right kind_columns kind)) (eqb count w && eqb last 10)).0 h in
      let b = (and-eq-true_iff (eqb count w) (eqb last 10)).0 a.1 in
      record {
        front = same_true (take kind_columns line) (right kind_columns kind) a.0;
        middle = eqb-true count w b.0;
        feed = eqb-true last 10 b.1;
      }

  pub exact : (line : List ℕ) → is_line kind w line ≡ true → length line ≤ line_bytes w
      → Exact (line_of kind) (words_of w) w (line_bytes w) line
  unfolding line_of words_of
  exact line h l =
      let t = tests line h in
      let words = drop kind_columns line in
      let end = kind_columns + word_columns * w in
      let r = row_again w words t.middle in
      let i : end < length line = inside line end 10 (lit< tt) t.feed in
      let rest : drop (word_columns * w) words ≡ 10 ∷ [] =
      drop-drop (word_columns * w) kind_columns line
      ∙ drop-cons line end 0 i
      ∙ rw (t.feed, drop_of_length-le line {i = suc end} (omega arith)) in
      record {
        again =
            rw (r.again, ← t.front, ← rest, take-append-drop (word_columns * w) words) (take-append-drop kind_columns line);
        long = omega arith;
        sized = r.sized;
        words = r.words;
      }
