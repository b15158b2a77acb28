-- A word more in a row, and a row more in a table.
use Prim.Native.Nat.{ℕ, suc, ◌+◌, ◌-◌, ◌*◌, ◌≤◌, ◌<◌}
use mathlib.Core.Path.{◌≡◌, refl, sym, ap, ◌∙◌}
use native.Mathlib.Nat.{mul-suc}
use Rattle.std.specs.Prelude.{Option}
use mathlib.Core.List.{List, [], ◌∷◌, ◌++◌, append_assoc}
use native.Mathlib.Numerals.{add-one}
use native.Mathlib.Omega.{arith}
use lib.ListN.{length, take, drop, set, get_or, length-drop}
use lib.Seq.{drop-cons, drop-drop, set_at, length-take-le}
use Rattle.std.specs.Option.{unwrap_or}
use Rattle.machine.specs.Part.{through, from, written}
use Rattle.cells.specs.Cells.{word_columns, each, cell_of, word_in}
use Rattle.cells.specs.Laws.{each_more, length-each}
use Rattle.cells.proofs.Columns.{part}
use Rattle.lines.specs.Lines.{kind_columns, line_bytes, words_of}

module _ (line : List ℕ) (words i : ℕ) (some : i ≤ words) (size : length line ≡ line_bytes words) where
  length-words : length (each word_in word_columns i (drop kind_columns line)) ≡ i
  length-words =
      length-each word_in word_columns 1 (λ xs h. refl) i (drop kind_columns line) (omega (arith, length-drop kind_columns line))
      ∙ omega arith

  -- a word more
  pub one_word : (o row : List ℕ) (w : ℕ) (r : Option ℕ) → i < length o
      → row ≡ each word_in word_columns i (drop kind_columns line) ++ drop i o
      → (let at = kind_columns + word_columns * i in r ≡ cell_of (take (at + word_columns - at) (drop at line)))
      → w ≡ unwrap_or r 0
      → set row i w ≡ each word_in word_columns (i + 1) (drop kind_columns line) ++ drop (i + 1) o
  one_word o row w r l e q u =
      let R : List ℕ = each word_in word_columns i (drop kind_columns line) in
      let d = drop-drop (word_columns * i) kind_columns line in
      let v : w ≡ unwrap_or (cell_of (take word_columns (drop (kind_columns + word_columns * i) line))) 0 =
      u ∙ ap (λ (x : Option ℕ). unwrap_or x 0) (q ∙ ap cell_of (part line (kind_columns + word_columns * i) word_columns)) in
      rw (add-one, each_more word_in word_columns i (drop kind_columns line), e, drop-cons o i 0 l, set_at R (get_or o i 0) (drop (suc i) o) w i length-words, v, d)
      (sym (append_assoc R (_ ∷ []) (drop (suc i) o)))

module _ (text : List ℕ) (words size i : ℕ) (fits : size ≡ line_bytes words) where
  length-row : (line : List ℕ) → length line ≡ size → length (words_of words line) ≡ words
  unfolding words_of
  length-row line h = length-words line words words (omega arith) (h ∙ fits)

  length-rows : size * i ≤ length text → length (each (words_of words) size i text) ≡ words * i
  length-rows h = length-each (words_of words) size words length-row i text h

  -- a row more
  pub one_row : (o table ys : List ℕ) → size * i + size ≤ length text
      → table ≡ each (words_of words) size i text ++ drop (words * i) o
      → ys ≡ words_of words (take (size * i + size - size * i) (drop (size * i) text)) ++ drop words (from table (words * i))
      → through table (words * i) ys ≡ each (words_of words) size (i + 1) text ++ drop (words * (i + 1)) o
  one_row o table ys l t y =
      let R : List ℕ = each (words_of words) size i text in
      let line : List ℕ = take size (drop (size * i) text) in
      let w : List ℕ = words_of words line in
      let n : length R ≡ words * i = length-rows (omega arith) in
      let m : length w ≡ words = length-row line (length-take-le size (drop (size * i) text) (omega (arith, length-drop (size * i) text))) in
      rw (add-one, each_more (words_of words) size i text, mul-next)
      (written R o table w ys (words * i) words (sym n) (sym m) t (rw (part text (size * i) size) at y))
    where
      mul-next : words * suc i ≡ words * i + words
      mul-next = omega (arith, mul-suc words i)
