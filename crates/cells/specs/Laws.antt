-- Laws of `each` and `leading`, and of cells, which the code and the theorems cite.
use Prim.Native.Nat.{ℕ, zero, suc, ◌+◌, ◌-◌, ◌*◌, ◌^◌, ◌≤◌, ◌<◌}
use Rattle.std.specs.Prelude.{◌≡◌, Bool, true, false, ltb, length, take}
use Rattle.std.proofs.Math.Path.{sym, ap}
use Rattle.std.proofs.Common.{◌∙◌, add-one, mul-zero, zero-add, lit<, length-take-le, ltb-true, lt-ltb}
use Rattle.std.proofs.Math.Bool.{and-eq-true_iff}
use mathlib.Core.List.{List, ◌++◌, append_assoc, append-nil}
use native.Mathlib.Omega.{arith}
use Rattle.std.proofs.Math.Nat.{mul-suc, sub-zero}
use Rattle.std.proofs.Math.ListN.{drop, length-append, length-drop}
use Rattle.std.proofs.Math.Seq.{drop-drop}
use Rattle.machine.specs.Same.{same, same_refl, same_true}
use Rattle.columns.specs.Digits.{read_back}
use Rattle.columns.specs.Columns.{right}
use Rattle.columns.proofs.Fits.{below_fits, reads_back}
use Rattle.cells.specs.Cells.{word_columns, each, leading, is_cell}

-- ---- each

module _ (f : List ℕ → List ℕ) (step : ℕ) where
  -- the last piece stands behind the others
  pub each_more : (n : ℕ) (xs : List ℕ) → each f step (suc n) xs ≡ each f step n xs ++ f (take step (drop (step * n) xs))
  unfolding each
  each_more zero xs = rw (mul-zero step) (append-nil (f (take step xs)))
  each_more (suc n) xs =
      let e : step * suc n ≡ step + step * n = omega (arith, mul-suc step n) in
      ap (λ (l : List ℕ). f (take step xs) ++ l) (each_more n (drop step xs))
      ∙ sym (append_assoc (f (take step xs)) (each f step n (drop step xs)) (f (take step (drop (step * n) (drop step xs)))))
      ∙ ap (λ (l : List ℕ). each f step (suc n) xs ++ f (take step l)) (drop-drop (step * n) step xs ∙ ap (λ (k : ℕ). drop k xs) (sym e))

  -- pieces of one size
  pub length-each : (size : ℕ) → ((xs : List ℕ) → length xs ≡ step → length (f xs) ≡ size)
      → (n : ℕ) (xs : List ℕ) → step * n ≤ length xs → length (each f step n xs) ≡ size * n
  unfolding each
  length-each size h zero xs l = sym (mul-zero size)
  length-each size h (suc n) xs l =
      let e : step * suc n ≡ step + step * n = omega (arith, mul-suc step n) in
      let q : size * suc n ≡ size + size * n = omega (arith, mul-suc size n) in
      length-append (f (take step xs)) (each f step n (drop step xs))
      ∙ omega (
        arith,
        h (take step xs) (length-take-le step xs (omega arith)),
        length-each size h n (drop step xs) (omega (arith, length-drop step xs)),
      )

-- ---- leading

module _ (test : List ℕ → Bool) (step : ℕ) where
  -- of n in all, the first i pass
  abbrev pub Passed : ℕ → List ℕ → ℕ → Type 0
  Passed n xs i = leading test step n xs ≡ i + leading test step (n - i) (drop (step * i) xs)

  pub passed_none : (n : ℕ) (xs : List ℕ) → Passed n xs 0
  passed_none n xs = rw (mul-zero, sub-zero) (sym (zero-add _))

  -- one more
  pub passed_more : (n : ℕ) (xs : List ℕ) (i : ℕ) → i < n → Passed n xs i → test (take step (drop (step * i) xs)) ≡ true
      → Passed n xs (i + 1)
  unfolding leading
  passed_more n xs i l h t =
      let k : n - i ≡ suc (n - (i + 1)) = omega arith in
      let e : step * i + step ≡ step * (i + 1) = rw (add-one, mul-suc) in
      h ∙ rw (k, t, drop-drop step (step * i) xs, e) (omega arith)

  -- the next fails, or none is left
  pub passed_fails : (n : ℕ) (xs : List ℕ) (i : ℕ) → i < n → Passed n xs i → test (take step (drop (step * i) xs)) ≡ false
      → i ≡ leading test step n xs
  unfolding leading
  passed_fails n xs i l h t =
      let k : n - i ≡ suc (n - (i + 1)) = omega arith in
      sym (h ∙ rw (k, t) (omega arith))

  pub passed_all : (n : ℕ) (xs : List ℕ) (i : ℕ) → i ≡ n → Passed n xs i → i ≡ leading test step n xs
  unfolding leading
  passed_all n xs i e h =
      let k : n - i ≡ 0 = omega arith in
      sym (h ∙ rw k (omega arith))

-- ---- cells

-- a cell is the columns of its word, a u64
pub cell_columns : (bytes : List ℕ) → is_cell bytes ≡ true
    → (bytes ≡ right word_columns (read_back bytes)) × (read_back bytes < 2 ^ 64)
unfolding is_cell
cell_columns bytes h =
    let g = (and-eq-true_iff (ltb (read_back bytes) (2 ^ 64)) (same bytes (right word_columns (read_back bytes)))).0 h in
    (same_true _ _ g.1, ltb-true _ _ g.0)

-- the columns of a u64 are a cell, and spell it
pub spells : (n : ℕ) → n < 2 ^ 64 → read_back (right word_columns n) ≡ n
spells n h =
    reads_back word_columns n
    (below_fits word_columns n (omega arith) (omega (arith, lit< {m = 2 ^ 64} {n = 10 ^ 21} tt)))

pub columns_cell : (n : ℕ) → n < 2 ^ 64 → is_cell (right word_columns n) ≡ true
unfolding is_cell
columns_cell n h = rw (spells n h, lt-ltb n (2 ^ 64) h) (same_refl (right word_columns n))
