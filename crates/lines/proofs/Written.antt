-- What a store does to a sheet: a line is its kind, its cells and a line feed, and a table grows line by line.
use Prim.Native.Nat.{ℕ, suc, ◌+◌, ◌-◌, ◌*◌, ◌≤◌}
use mathlib.Core.Path.{◌≡◌, sym, ◌∙◌}
use mathlib.Core.List.{List, ◌++◌, append_assoc}
use native.Mathlib.Omega.{arith}
use native.Mathlib.Nat.{mul-suc}
use native.Mathlib.Numerals.{add-one}
use lib.ListN.{length, take, drop, set, length-drop}
use lib.Seq.{length-take-le}
use Rattle.machine.specs.Part.{through, from, over_part, written}
use Rattle.columns.specs.Columns.{cell_in}
use Rattle.columns.proofs.Fits.{length-rights}
use Rattle.columns.proofs.Line.{start, more, cell, feed}
use Rattle.cells.specs.Cells.{each, word_columns, cells}
use Rattle.cells.specs.Laws.{each_more, length-each}
use Rattle.cells.proofs.Columns.{part}
use Rattle.lines.specs.Lines.{kind_columns, line_bytes, line_of}
use Rattle.lines.specs.RoundTrip.Lines.{kept}

-- ---- a line

pub lined : (kind : ℕ) (row o : List ℕ) {out : List ℕ} (ys : List ℕ) → line_bytes (length row) ≤ length o
    → length out ≡ length o
    → out ≡ cell_in 0 kind_columns kind o
    → ys ≡ cells row ++ drop (word_columns * length row) (from out kind_columns)
    → set (through out kind_columns ys) (kind_columns + word_columns * length row) 10
    ≡ line_of kind row ++ drop (line_bytes (length row)) o
unfolding line_of
lined kind row o {out} ys h l e y =
    let k : ℕ = word_columns * length row in
    let u = cell kind_columns kind (start o) e in
    let v = more (cells row) k (length-rights word_columns row) u (over_part out (cells row) ys kind_columns k y) in
    (feed (line_bytes (length row)) v (omega arith) (omega arith)).is ∙ simp append_assoc

-- ---- the lines of a table

module _ (kind words : ℕ) (table o : List ℕ) where
  -- a line more
  pub one_line : (out ys : List ℕ) (size i : ℕ) → size ≡ line_bytes words → words * i + words ≤ length table
      → out ≡ each (line_of kind) words i table ++ drop (size * i) o
      → (let r = take (words * i + words - words * i) (drop (words * i) table) in ys ≡ line_of kind r ++ drop (line_bytes (length r)) (from out (size * i)))
      → through out (size * i) ys ≡ each (line_of kind) words (i + 1) table ++ drop (size * (i + 1)) o
  one_line out ys size i s h u y =
      let r : List ℕ = take words (drop (words * i) table) in
      let n : length r ≡ words = length-take-le words (drop (words * i) table) (omega (arith, length-drop (words * i) table)) in
      let q : ys ≡ line_of kind r ++ drop size (from out (size * i)) = rw (part table (words * i) words, n, ← s) at y in
      let l : length (each (line_of kind) words i table) ≡ size * i =
      length-each (line_of kind) words size (λ xs k. (kept kind words).long xs k ∙ sym s) i table (omega arith) in
      rw (add-one, each_more (line_of kind) words i table, mul-next)
      (written (each (line_of kind) words i table) o out (line_of kind r) ys (size * i) size (sym l) (s ∙ sym ((kept kind words).long r n)) u q)
    where
      mul-next : size * suc i ≡ size * i + size
      mul-next = omega (arith, mul-suc size i)
