-- The line cell by cell, and the rows read lie inside the tables.
use Prim.Native.Nat.{ℕ, ◌*◌, ◌≤◌}
use mathlib.Core.Path.{◌≡◌, refl, sym, ◌∙◌, subst}
use mathlib.Core.Bool.{Bool, true, false}
use mathlib.Core.List.{List, ◌++◌}
use native.Mathlib.Omega.{arith}
use lib.Dec.{eqb}
use lib.ListN.{length, take, drop, set, length-append}
use borrow.Author.Tests.{eqb-true}
use Rattle.machine.specs.Constants.{machine_words, state_words, transition_words}
use Rattle.tables.specs.Machine.{tables_refusal}
use Rattle.columns.specs.Columns.{cell_in}
use Rattle.columns.proofs.Line.{start, cell, feed}
use Rattle.sheet.specs.Reader.{read_refusal, Read, sheet_read}
use Rattle.sheet.specs.Writer.{over}
use Rattle.sheet.proofs.RoundTrip.Calls.{reads}
use Rattle.sheet.proofs.RoundTrip.Form.{machines_of, states_of, transitions_of, length-machines, length-states, length-transitions}
use Rattle.sheet.specs.declared.SheetRows.{SheetRows}
use Rattle.sheet_check.specs.Verdict.{verdict_line, judged_line, line_length}

pub lined : (o : List ℕ) {x₁ x₂ x₃ x₄ x₅ : List ℕ} (r : SheetRows) (tables : ℕ) → line_length ≤ length o
    → x₁ ≡ cell_in 0 4 r.refusal o
    → x₂ ≡ cell_in 4 8 r.machines x₁
    → x₃ ≡ cell_in 12 8 r.states x₂
    → x₄ ≡ cell_in 20 8 r.transitions x₃
    → x₅ ≡ cell_in 28 4 tables x₄
    → set x₅ 32 10 ≡ verdict_line r tables ++ drop line_length o
unfolding verdict_line
lined o r tables h e₁ e₂ e₃ e₄ e₅ =
    (feed 33 (cell 4 tables (cell 8 r.transitions (cell 8 r.states (cell 8 r.machines (cell 4 r.refusal (start o) e₁) e₂) e₃) e₄) e₅) refl (omega arith)).is

-- the rows of an answer lie inside the tables
abbrev Inside : SheetRows → List ℕ → List ℕ → List ℕ → Type 0
Inside r x y z =
    (machine_words * r.machines ≤ length x)
    × (state_words * r.states ≤ length y)
    × (transition_words * r.transitions ≤ length z)

-- what is written over a list is part of it
longer : (xs ys : List ℕ) (n : ℕ) → length xs ≡ n → n ≤ length (over xs ys)
longer xs ys n h = omega (arith, length-append xs (drop (length xs) ys))

module _ (sheet m s t : List ℕ) where
  abbrev InsideOf : Read → Type 0
  InsideOf R = Inside R.answer R.machines R.states R.transitions

  inside : InsideOf (sheet_read sheet m s t)
  unfolding sheet_read
  inside = by-refusal (eqb (read_refusal sheet m s t) 0) refl
    where
      by-refusal : (b : Bool) → eqb (read_refusal sheet m s t) 0 ≡ b → InsideOf (sheet_read sheet m s t)
      by-refusal true e =
          subst InsideOf (sym (reads sheet m s t (eqb-true _ 0 e))) (
            longer (machines_of sheet) m _ (length-machines sheet),
            longer (states_of sheet) s _ (length-states sheet),
            longer (transitions_of sheet) t _ (length-transitions sheet),
          )
      by-refusal false e = rw e (omega arith, omega arith, omega arith)

  abbrev R : Read
  R = sheet_read sheet m s t

  pub machines_inside : (r : SheetRows) (x : List ℕ) → r ≡ R.answer → x ≡ R.machines → machine_words * r.machines ≤ length x
  machines_inside r x e f = rw (e, f) inside.0

  pub states_inside : (r : SheetRows) (x : List ℕ) → r ≡ R.answer → x ≡ R.states → state_words * r.states ≤ length x
  states_inside r x e f = rw (e, f) inside.1

  pub transitions_inside : (r : SheetRows) (x : List ℕ) → r ≡ R.answer → x ≡ R.transitions → transition_words * r.transitions ≤ length x
  transitions_inside r x e f = rw (e, f) inside.2

  -- the line of what was read and judged
  pub judged : (r : SheetRows) (x y z o line : List ℕ) (refusal : ℕ)
      → r ≡ R.answer → x ≡ R.machines → y ≡ R.states → z ≡ R.transitions
      → refusal
      ≡ tables_refusal (take (machine_words * r.machines) x) (take (state_words * r.states) y) (take (transition_words * r.transitions) z)
      → line ≡ verdict_line r refusal ++ drop line_length o
      → line ≡ judged_line sheet m s t ++ drop line_length o
  unfolding judged_line
  judged r x y z o line refusal er ex ey ez f g = g ∙ rw (f, er, ex, ey, ez)
