-- The cells of a row: what is written for a u64 is a cell, which reads back as it, and a cell is what is written for its word.
use Rattle.std.specs.Prelude.{ℕ, ◌*◌, ◌^◌, ◌≤◌, ◌<◌, ◌≡◌, refl, true, List, [], ◌∷◌, ◌++◌, length, take, get_or}
use Rattle.std.specs.Option.{unwrap_or}
use Rattle.std.proofs.Common.{sym, ap, ◌∙◌, append-nil, arith, add-zero}
use Rattle.columns.specs.Columns.{right, rights}
use Rattle.columns.proofs.Fits.{length-right, length-rights}
use Rattle.cells.specs.Cells.{each, word_columns, cells, leading, is_cell, cell_of, word_in}
use Rattle.cells.specs.Laws.{cell_columns, columns_cell, spells}
use Rattle.cells.specs.RoundTrip.U64.{Words, one_word}
use Rattle.cells.specs.RoundTrip.Pieces.{Kept, Exact, Found, leading_written, table_written, found}

-- ---- one cell

written_reads : (n : ℕ) → n < 2 ^ 64 → unwrap_or (cell_of (right word_columns n)) 0 ≡ n
unfolding cell_of
written_reads n h = rw (columns_cell n h) (spells n h)

cell_is_written : (bytes : List ℕ) → is_cell bytes ≡ true → right word_columns (unwrap_or (cell_of bytes) 0) ≡ bytes
unfolding cell_of
cell_is_written bytes h = rw h (sym (cell_columns bytes h).0)

cell_is_u64 : (bytes : List ℕ) → is_cell bytes ≡ true → unwrap_or (cell_of bytes) 0 < 2 ^ 64
unfolding cell_of
cell_is_u64 bytes h = rw h (cell_columns bytes h).1

-- ---- the cells of a row are pieces of one word

one_cell : (word : ℕ) → cells (word ∷ []) ≡ right word_columns word
unfolding rights
one_cell word = append-nil (right word_columns word)

row_of_one : (row : List ℕ) → length row ≡ 1 → row ≡ get_or row 0 0 ∷ []
row_of_one [] l = absurd (omega (arith, l))
row_of_one (word ∷ []) l = refl
row_of_one (word ∷ (next ∷ row)) l = absurd (omega (arith, l))

kept : Kept cells word_in is_cell 1 word_columns
kept = record {
  long = λ row l. length-rights word_columns row ∙ omega (arith, l);
  passes = λ row l h. rw (row_of_one row l, one_cell (get_or row 0 0)) (columns_cell (get_or row 0 0) (h 0));
  back = λ row l h. rw (row_of_one row l, one_cell (get_or row 0 0), written_reads (get_or row 0 0) (h 0));
}

exact : (bytes : List ℕ) → is_cell bytes ≡ true → length bytes ≤ word_columns → Exact cells word_in 1 word_columns bytes
exact bytes h l =
    let e = cell_is_written bytes h in
    record {
      again = one_cell (unwrap_or (cell_of bytes) 0) ∙ e;
      long = ap length (sym e) ∙ length-right word_columns (unwrap_or (cell_of bytes) 0);
      sized = refl;
      words = one_word (unwrap_or (cell_of bytes) 0) (cell_is_u64 bytes h);
    }

each_cell : (row : List ℕ) → each cells 1 (length row) row ≡ cells row
unfolding each rights
each_cell [] = refl
each_cell (word ∷ row) = rw (append-nil (right word_columns word), each_cell row)

-- ---- a row

-- every word of a row is found
pub row_found : (row rest : List ℕ) → Words row → leading is_cell word_columns (length row) (cells row ++ rest) ≡ length row
unfolding leading
row_found row rest h =
    let w = leading_written cells word_in is_cell 1 word_columns kept (length row) 0 row rest (omega arith) h in
    rw (add-zero (length row), each_cell row) at w

-- and read back
pub row_read : (row rest : List ℕ) → Words row → each word_in word_columns (length row) (cells row ++ rest) ≡ row
row_read row rest h =
    let w = table_written cells word_in is_cell 1 word_columns kept (length row) row rest (omega arith) h in
    rw (each_cell row) at w

-- n cells at the front of a text are what is written for their words
pub record Row (n : ℕ) (text : List ℕ) : Type 0 where
  pub again : cells (each word_in word_columns n text) ≡ take (word_columns * n) text
  pub sized : length (each word_in word_columns n text) ≡ n
  pub words : Words (each word_in word_columns n text)

pub row_again : (n : ℕ) (text : List ℕ) → leading is_cell word_columns n text ≡ n → Row n text
row_again n text h =
    let f : Found cells word_in 1 word_columns text n = rw h at (found cells word_in is_cell 1 word_columns exact n text) in
    let l : length (each word_in word_columns n text) ≡ n = omega (arith, f.sized) in
    record {
      again =
          sym (each_cell (each word_in word_columns n text))
          ∙ ap (λ (k : ℕ). each cells 1 k (each word_in word_columns n text)) l
          ∙ f.again;
      sized = l;
      words = f.words;
    }
