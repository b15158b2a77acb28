-- What the writer answers and leaves. 3: a table that is not whole rows; 23: the lent sheet is too small.
use Rattle.std.specs.Prelude.{ℕ, ◌%◌, Bool, cond, ◌&&◌, List, ◌++◌, ◌≡◌, eqb, leb, length, drop}
use Rattle.machine.specs.Constants.{machine_words, state_words, transition_words}
use Rattle.sheet.specs.Sheet.{sheet_of}
use Rattle.sheet.specs.declared.SheetBytes.{SheetBytes}

-- tables of so many words are whole rows
unfoldable pub whole_rows : ℕ → ℕ → ℕ → Bool
whole_rows machines states transitions =
    eqb (machines % machine_words) 0 && (eqb (states % state_words) 0 && eqb (transitions % transition_words) 0)

-- the refusal of a lent sheet, or 0
unfoldable pub write_refusal : List ℕ → List ℕ → List ℕ → List ℕ → ℕ
write_refusal machines states transitions sheet =
    cond (whole_rows (length machines) (length states) (length transitions))
    (cond (leb (length (sheet_of machines states transitions)) (length sheet)) 0 23)
    3

-- what is written over the front of what was lent, whose other elements stay
abbrev pub over : List ℕ → List ℕ → List ℕ
over written lent = written ++ drop (length written) lent

-- the answer, and the sheet as the call leaves it
pub record Written : Type 0 where
  pub answer : SheetBytes
  pub sheet : List ℕ

unfoldable pub sheet_write : List ℕ → List ℕ → List ℕ → List ℕ → Written
sheet_write machines states transitions sheet =
    let text = sheet_of machines states transitions in
    let refusal = write_refusal machines states transitions sheet in
    cond (eqb refusal 0)
    (record { answer = record { refusal = 0; bytes = length text }; sheet = over text sheet })
    (record { answer = record { refusal = refusal; bytes = 0 }; sheet = sheet })

-- a call on this sheet gives the answer r and leaves the sheet x
abbrev pub Writes : List ℕ → List ℕ → List ℕ → List ℕ → SheetBytes → List ℕ → Type 0
Writes machines states transitions sheet r x =
    let W = sheet_write machines states transitions sheet in (r ≡ W.answer) × (x ≡ W.sheet)
