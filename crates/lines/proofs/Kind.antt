-- The columns of a kind, and the test of a line part by part.
use Prim.Native.Nat.{ℕ, ◌+◌, ◌-◌, ◌*◌, ◌/◌, ◌%◌, ◌<◌}
use mathlib.Core.Path.{◌≡◌, refl, sym, ap, ◌∙◌}
use mathlib.Core.Bool.{Bool, ◌&&◌}
use mathlib.Core.List.{List, [], ◌∷◌}
use native.Mathlib.Omega.{arith}
use lib.Dec.{eqb}
use lib.ListN.{length, take, drop, get_or, length-drop}
use lib.Pointwise.{pointwise}
use lib.Seq.{take_all}
use Rattle.columns.specs.Columns.{right}
use Rattle.columns.proofs.ByColumn.{rests, right_ends}
use Rattle.machine.specs.Same.{same}
use Rattle.cells.specs.Cells.{word_columns, leading, is_cell}
use Rattle.cells.proofs.Columns.{part}
use Rattle.lines.specs.Lines.{kind_columns, line_bytes, is_line}

digit_columns : (kind : ℕ) → kind < 10 → right kind_columns kind ≡ 32 ∷ 32 ∷ 32 ∷ (48 + kind) ∷ []
unfolding rests
digit_columns kind h =
    let z : kind / 10 ≡ 0 = omega arith in
    let d : kind % 10 ≡ kind = omega arith in
    right_ends 3 kind ∙ rw (z, d)

-- how `==` compares two lists
same_is : (xs ys : List ℕ) → pointwise eqb xs ys ≡ same xs ys
unfolding same
same_is [] [] = refl
same_is [] (y ∷ ys) = refl
same_is (x ∷ xs) [] = refl
same_is (x ∷ xs) (y ∷ ys) = rw (same_is xs ys)

-- the test of the four columns
pub kind_test : (xs : List ℕ) (kind : ℕ) → kind < 10
    → pointwise eqb xs (32 ∷ 32 ∷ 32 ∷ (48 + kind) ∷ []) ≡ same xs (right kind_columns kind)
kind_test xs kind k = rw (digit_columns kind k) (same_is xs _)

-- a part that reaches to the end
pub to_end : (bytes : List ℕ) (at : ℕ) → take (length bytes - at) (drop at bytes) ≡ drop at bytes
to_end bytes at = take_all (length bytes - at) (drop at bytes) (omega (arith, length-drop at bytes))

pub line_test : (line : List ℕ) (kind words : ℕ) (k : Bool) (n : ℕ) → length line ≡ line_bytes words
    → same (take kind_columns line) (right kind_columns kind) ≡ k
    → n ≡ leading is_cell word_columns words (take (length line - kind_columns) (drop kind_columns line))
    → k && (eqb n words && eqb (get_or line (length line - 1) 0) 10) ≡ is_line kind words line
unfolding is_line
line_test line kind words k n l e g =
    let end : length line - 1 ≡ kind_columns + word_columns * words = omega arith in
    rw (e, g, to_end line kind_columns, end)

-- what was said of the bytes from `size * i` on is said of line i
pub line_at : (text : List ℕ) (kind words size i : ℕ) (r b : Bool)
    → r ≡ is_line kind words (take (size * i + size - size * i) (drop (size * i) text))
    → r ≡ b
    → is_line kind words (take size (drop (size * i) text)) ≡ b
line_at text kind words size i r b h g = sym (h ∙ ap (is_line kind words) (part text (size * i) size)) ∙ g
