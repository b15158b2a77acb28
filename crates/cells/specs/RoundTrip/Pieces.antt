-- Pieces of `size` words, each written as `step` bytes: written pieces are found and read back, and pieces that are found
-- are the ones that would be written. The cells of a row and the lines of a table are both such pieces.
use Prim.Native.Nat.{ℕ, zero, suc, ◌+◌, ◌*◌, ◌≤◌}
use Rattle.std.specs.Prelude.{◌≡◌, Bool, cond, drop}
use Rattle.std.proofs.Math.Path.{refl, sym, ap}
use Rattle.std.proofs.Common.{◌∙◌, arith, take-append-drop, take-add, length-take-le}
use Rattle.std.proofs.Math.Bool.{true, false}
use mathlib.Core.List.{List, [], ◌∷◌, ◌++◌, append_assoc}
use Rattle.std.proofs.Math.Nat.{mul-suc, mul-zero, zero-add, suc-add}
use Rattle.std.proofs.Math.ListN.{length, take, length-append, length-take, length-drop}
use Rattle.std.proofs.Math.Seq.{take_at, drop_at}
use Rattle.cells.specs.Cells.{each, leading}
use Rattle.cells.specs.RoundTrip.U64.{Words, no_words, words_take, words_drop, words_append}

-- what `put` writes of a piece has its size, passes the test, and `get` reads the piece back
pub record Kept (put get : List ℕ → List ℕ) (test : List ℕ → Bool) (size step : ℕ) : Type 0 where
  pub long : (row : List ℕ) → length row ≡ size → length (put row) ≡ step
  pub passes : (row : List ℕ) → length row ≡ size → Words row → test (put row) ≡ true
  pub back : (row : List ℕ) → length row ≡ size → Words row → get (put row) ≡ row

-- a piece that passes the test is what `put` writes of a piece of words, the one that `get` reads
pub record Exact (put get : List ℕ → List ℕ) (size step : ℕ) (piece : List ℕ) : Type 0 where
  pub again : put (get piece) ≡ piece
  pub long : length piece ≡ step
  pub sized : length (get piece) ≡ size
  pub words : Words (get piece)

-- the first n pieces of a text are what `put` writes of the words that `get` reads
pub record Found (put get : List ℕ → List ℕ) (size step : ℕ) (text : List ℕ) (n : ℕ) : Type 0 where
  pub again : each put size n (each get step n text) ≡ take (step * n) text
  pub sized : length (each get step n text) ≡ size * n
  pub fits : step * n ≤ length text
  pub words : Words (each get step n text)

-- none, where the next piece fails the test
pub leading_none : (test : List ℕ → Bool) (step n : ℕ) (text : List ℕ) → test (take step text) ≡ false
    → leading test step n text ≡ 0
unfolding leading
leading_none test step zero text h = refl
leading_none test step (suc n) text h = rw h

module _ (put get : List ℕ → List ℕ) (test : List ℕ → Bool) (size step : ℕ) (kept : Kept put get test size step) where
  -- what is left of a table of one piece more
  fewer : (n : ℕ) (table : List ℕ) → length table ≡ size * suc n
      → (length (take size table) ≡ size) × (length (drop size table) ≡ size * n)
  fewer n table l =
      let e : length table ≡ size * n + size = l ∙ mul-suc size n in
      (length-take-le size table (omega arith), length-drop size table ∙ omega arith)

  -- the pieces of a table are found, and then those of the text behind it
  pub leading_written : (n k : ℕ) (table rest : List ℕ) → length table ≡ size * n → Words table
      → leading test step (n + k) (each put size n table ++ rest) ≡ n + leading test step k rest
  unfolding leading each
  leading_written zero k table rest l h = simp zero-add
  leading_written (suc n) k table rest l h =
      let f = fewer n table l in
      let row = take size table in
      let more = each put size n (drop size table) in
      let long : length (put row) ≡ step = kept.long row f.0 in
      rw (
        suc-add n k,
        append_assoc (put row) more rest,
        take_at (put row) (more ++ rest) step long,
        drop_at (put row) (more ++ rest) step long,
        kept.passes row f.0 (words_take size table h),
        leading_written n k (drop size table) rest f.1 (words_drop size table h),
      )
      (sym (suc-add n (leading test step k rest)))

  -- and are read back
  pub table_written : (n : ℕ) (table rest : List ℕ) → length table ≡ size * n → Words table
      → each get step n (each put size n table ++ rest) ≡ table
  unfolding each
  table_written zero [] rest l h = refl
  table_written zero (x ∷ xs) rest l h = absurd (omega (arith, l, mul-zero size))
  table_written (suc n) table rest l h =
      let f = fewer n table l in
      let row = take size table in
      let more = each put size n (drop size table) in
      let long : length (put row) ≡ step = kept.long row f.0 in
      rw (
        append_assoc (put row) more rest,
        take_at (put row) (more ++ rest) step long,
        drop_at (put row) (more ++ rest) step long,
        kept.back row f.0 (words_take size table h),
        table_written n (drop size table) rest f.1 (words_drop size table h),
      )
      (take-append-drop size table)

module _ (put get : List ℕ → List ℕ) (test : List ℕ → Bool) (size step : ℕ)
    (exact : (piece : List ℕ) → test piece ≡ true → length piece ≤ step → Exact put get size step piece) where
  found_none : (text : List ℕ) → Found put get size step text 0
  unfolding each
  found_none text = record {
    again = rw mul-zero;
    sized = sym (mul-zero size);
    fits = omega (arith, mul-zero step);
    words = no_words;
  }

  found-more : (text : List ℕ) (n : ℕ) → test (take step text) ≡ true → Found put get size step (drop step text) n
      → Found put get size step text (suc n)
  unfolding each
  found-more text n t r =
      let x = exact (take step text) t (omega (arith, length-take step text)) in
      let row = get (take step text) in
      let more = each get step n (drop step text) in
      let e : step + step * n ≡ step * suc n = omega (arith, mul-suc step n) in
      record {
        again =
            rw (take_at row more size x.sized, drop_at row more size x.sized, x.again, r.again)
            (sym (take-add step (step * n) text) ∙ ap (λ (k : ℕ). take k text) e);
        sized = length-append row more ∙ omega (arith, x.sized, r.sized, mul-suc size n);
        fits = omega (arith, x.long, r.fits, length-take step text, length-drop step text);
        words = words_append row more x.words r.words;
      }

  -- the pieces that pass the test, as far as they stand in a row
  pub found : (n : ℕ) (text : List ℕ) → Found put get size step text (leading test step n text)
  unfolding leading
  found zero text = found_none text
  found (suc n) text = by_test (test (take step text)) refl (found n (drop step text))
    where
      by_test : (b : Bool) → test (take step text) ≡ b
          → Found put get size step (drop step text) (leading test step n (drop step text))
          → Found put get size step text (cond b (suc (leading test step n (drop step text))) 0)
      by_test true e r = found-more text (leading test step n (drop step text)) e r
      by_test false e r = found_none text
