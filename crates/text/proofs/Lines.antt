-- A call's line and a row's line, cell by cell, and one row's line more behind a call's text.
use Prim.Native.Nat.{ℕ, zero, suc, ◌+◌, ◌*◌, ◌-◌, ◌≤◌}
use mathlib.Core.Path.{◌≡◌, refl, sym, ap, ◌∙◌}
use mathlib.Core.List.{List, ◌++◌, append_assoc, append-nil}
use native.Mathlib.Numerals.{add-one}
use native.Mathlib.Omega.{arith}
use lib.ListN.{length, drop, set, get_or, length-append}
use lib.Seq.{drop_at, drop-drop}
use Rattle.machine.specs.Constants.{row_words}
use Rattle.machine.specs.Part.{through, from, from_is, over_part}
use Rattle.columns.specs.Columns.{cell_in}
use Rattle.columns.proofs.Fits.{length-right}
use Rattle.columns.proofs.Line.{Upto, start, more, cell, feed}
use Rattle.text.specs.Printed.{call_line, row_line, row_in, row_lines, call_text}

-- the line that is put at the front of the part from `at` on is put in the text
pub rowed : (out rows ys : List ℕ) (at i : ℕ)
    → ys ≡ row_line (from rows (row_words * i)) ++ drop 41 (from out at) → through out at ys ≡ row_in at rows i out
unfolding row_in
rowed out rows ys at i y =
    over_part out (row_line (drop (row_words * i) rows)) ys at 41 (rw (from_is rows (row_words * i)) at y)

pub call_lined : (o : List ℕ) {x₁ x₂ x₃ : List ℕ} (a b c : ℕ) → 15 ≤ length o
    → x₁ ≡ cell_in 0 6 a o
    → x₂ ≡ cell_in 6 4 b x₁
    → x₃ ≡ cell_in 10 4 c x₂
    → set x₃ 14 10 ≡ call_line a b c ++ drop 15 o
unfolding call_line
call_lined o a b c h e₁ e₂ e₃ = (feed 15 (cell 4 c (cell 4 b (cell 6 a (start o) e₁) e₂) e₃) refl (omega arith)).is

pub row_lined : (o : List ℕ) {x₁ x₂ x₃ x₄ x₅ x₆ : List ℕ} (row : List ℕ) → 41 ≤ length o
    → x₁ ≡ cell_in 0 4 (get_or row 0 0) o
    → x₂ ≡ cell_in 4 4 (get_or row 1 0) x₁
    → x₃ ≡ cell_in 8 4 (get_or row 2 0) x₂
    → x₄ ≡ cell_in 12 4 (get_or row 3 0) x₃
    → x₅ ≡ cell_in 16 12 (get_or row 4 0) x₄
    → x₆ ≡ cell_in 28 12 (get_or row 5 0) x₅
    → set x₆ 40 10 ≡ row_line row ++ drop 41 o
unfolding row_line
row_lined o row h e₁ e₂ e₃ e₄ e₅ e₆ =
    (feed 41 (cell 12 _ (cell 12 _ (cell 4 _ (cell 4 _ (cell 4 _ (cell 4 _ (start o) e₁) e₂) e₃) e₄) e₅) e₆) refl (omega arith)).is

length-call_line : (a b c : ℕ) → length (call_line a b c) ≡ 15
unfolding call_line
length-call_line a b c = simp (length-append, length-right)

length-row_line : (row : List ℕ) → length (row_line row) ≡ 41
unfolding row_line
length-row_line row = simp (length-append, length-right)

length-row_lines : (n : ℕ) (rows : List ℕ) → length (row_lines n rows) ≡ 41 * n
unfolding row_lines
length-row_lines zero rows = refl
length-row_lines (suc n) rows =
    length-append (row_lines n rows) (row_line (drop (row_words * n) rows))
    ∙ omega (arith, length-row_lines n rows, length-row_line (drop (row_words * n) rows))

-- a call's text is as long as its lines
pub length-call_text : (a b n : ℕ) (rows : List ℕ) → length (call_text a b n rows) ≡ 15 + 41 * n
unfolding call_text
length-call_text a b n rows =
    length-append (call_line a b n) (row_lines n rows) ∙ omega (arith, length-call_line a b n, length-row_lines n rows)

module _ (a b c : ℕ) (rows o : List ℕ) where
  abbrev L : List ℕ
  L = call_line a b c

  -- the call's line and the lines of the first i rows stand
  abbrev pub Lined : ℕ → List ℕ → Type 0
  Lined i out = Upto o (L ++ row_lines i rows) (15 + 41 * i) out

  -- a row more
  pub one_row : (out out' : List ℕ) (i : ℕ) → Lined i out → out' ≡ row_in (15 + 41 * i) rows i out → Lined (i + 1) out'
  unfolding row_lines row_in
  one_row out out' i u y =
      let w : List ℕ = row_line (drop (row_words * i) rows) in
      let e : 15 + 41 * (i + 1) ≡ 15 + 41 * i + 41 = omega arith in
      rw (e, add-one, ← append_assoc L (row_lines i rows) w)
      (more w 41 (length-row_line (drop (row_words * i) rows)) u y)

module _ (a b c : ℕ) (rows o o₁ : List ℕ) (e : o₁ ≡ call_line a b c ++ drop 15 o) where
  -- what stood behind the call's line is what stood there at first
  behind : (at : ℕ) → 15 ≤ at → drop at o₁ ≡ drop at o
  behind at h =
      let d : drop 15 o₁ ≡ drop 15 o = ap (drop 15) e ∙ drop_at (call_line a b c) (drop 15 o) 15 (length-call_line a b c) in
      let q : 15 + (at - 15) ≡ at = omega arith in
      ap (λ (k : ℕ). drop k o₁) (sym q)
      ∙ sym (drop-drop (at - 15) 15 o₁)
      ∙ ap (drop (at - 15)) d
      ∙ drop-drop (at - 15) 15 o
      ∙ ap (λ (k : ℕ). drop k o) q

  -- no row yet
  pub no_row : Lined a b c rows o₁ 0 o₁
  unfolding row_lines
  no_row =
      record {
        size = rw append-nil (length-call_line a b c);
        is = rw append-nil (e ∙ ap (λ (l : List ℕ). call_line a b c ++ l) (sym (behind 15 (omega arith))));
      }

  -- all rows
  pub all_rows_lem : (out : List ℕ) (i : ℕ) → i ≡ c → Lined a b c rows o₁ i out
      → out ≡ call_text a b c rows ++ drop (15 + 41 * c) o
  unfolding call_text
  all_rows_lem out i z u = rw (z, behind (15 + 41 * c) (omega arith)) at u.is
