-- A table of words, read as rows of w words each. Assumes nothing.
use Rattle.std.proofs.Common.{◌≡◌, ℕ, zero, suc, ◌+◌, ◌*◌, ◌-◌, ◌/◌, ◌≤◌, ◌<◌, List, [], ◌∷◌, ◌++◌, length, get_or, take, drop, length-take, length-drop, refl, sym, ap, ◌∙◌, arith}
use Rattle.std.proofs.lemmas.List.{get_or-take, get_or-drop}
use native.Mathlib.Nat.{zero-mul, one-mul, mul-le-mul_right, div-mul-le_self}
use lib.Seq.{drop-drop, take-add, take-append_seam, drop-append-add}
use Rattle.std.specs.List.{concat}
use Rattle.std.specs.Simd.{first_chunks}
use Rattle.machine.specs.State.{rows_of}

-- ---- a table of words
-- row i of the first k
pub row_at : (w k : ℕ) (s : List ℕ) (i : ℕ) → i < k → get_or (first_chunks w k s) i [] ≡ rows_of w s i 1
unfolding rows_of
row_at w zero s i h = absurd (omega arith)
row_at w (suc k) s zero h = rw (zero-mul w, one-mul w)
row_at w (suc k) s (suc i) h =
    let e : w + i * w ≡ suc i * w = omega arith in
    row_at w k (drop w s) i (omega arith) ∙ ap (take (1 * w)) (drop-drop (i * w) w s ∙ ap (λ (m : ℕ). drop m s) e)

-- and its word j
pub word_at : (w k : ℕ) (s : List ℕ) (i j : ℕ) → i < k → j < w → get_or (get_or (first_chunks w k s) i []) j 0 ≡ get_or s (i * w + j) 0
unfolding rows_of
word_at w k s i j h l =
    ap (λ (row : List ℕ). get_or row j 0) (row_at w k s i h) ∙ get_or-take (1 * w) (drop (i * w) s) j 0 (omega arith) ∙ get_or-drop (i * w) s j 0

pub length_of : (w k : ℕ) (s : List ℕ) → length (first_chunks w k s) ≡ k
length_of w zero s = refl
length_of w (suc k) s = ap suc (length_of w k (drop w s))

-- the words of the first k
pub words_of : (w k : ℕ) (s : List ℕ) → concat (first_chunks w k s) ≡ take (k * w) s
words_of w zero s = rw (zero-mul w)
words_of w (suc k) s =
    let e : w + k * w ≡ suc k * w = omega arith in
    ap (λ (l : List ℕ). take w s ++ l) (words_of w k (drop w s)) ∙ sym (take-add w (k * w) s) ∙ ap (λ (m : ℕ). take m s) e

-- n of them, from row `first` on
fewer : (w k n : ℕ) (s : List ℕ) → n ≤ k → take n (first_chunks w k s) ≡ first_chunks w n s
fewer w k zero s h = refl
fewer w zero (suc n) s h = absurd (omega arith)
fewer w (suc k) (suc n) s h = ap (λ (l : List (List ℕ)). take w s ∷ l) (fewer w k n (drop w s) (omega arith))

part : (w k first n : ℕ) (s : List ℕ) → first + n ≤ k → take n (drop first (first_chunks w k s)) ≡ first_chunks w n (drop (first * w) s)
part w k zero n s h = rw (zero-mul w) (fewer w k n s (omega arith))
part w zero (suc first) n s h = absurd (omega arith)
part w (suc k) (suc first) n s h =
    let e : w + first * w ≡ suc first * w = omega arith in
    part w k first n (drop w s) (omega arith) ∙ ap (λ (l : List ℕ). first_chunks w n l) (drop-drop (first * w) w s ∙ ap (λ (m : ℕ). drop m s) e)

pub words_within : (w k first n : ℕ) (s : List ℕ) → first + n ≤ k → concat (take n (drop first (first_chunks w k s))) ≡ rows_of w s first n
unfolding rows_of
words_within w k first n s h = ap concat (part w k first n s h) ∙ words_of w n (drop (first * w) s)

-- n rows from row `first` on, where the table has them
pub part_of : (w first n : ℕ) (s : List ℕ) (rows : List (List ℕ)) → rows ≡ first_chunks w (length s / w) s → first + n ≤ length s / w
    → ((first + n) * w ≤ length s) × (length (take (first + n - first) (drop first rows)) ≡ n)
    × (concat (take (first + n - first) (drop first rows)) ≡ rows_of w s first n)
part_of w first n s rows is h =
    let e : first + n - first ≡ n = omega arith in
    let all : length rows ≡ length s / w = ap length is ∙ length_of w (length s / w) s in
    (omega (arith, mul-le-mul_right w h, div-mul-le_self (length s) w), simp (e, length-take, length-drop) (omega arith), rw (e, is) (words_within w (length s / w) first n s h))

-- ---- rows of w words each
abbrev pub Whole : ℕ → List (List ℕ) → Type 0
Whole w rows = (i : ℕ) → i < length rows → length (get_or rows i []) ≡ w

pub row_of : (w : ℕ) (rows : List (List ℕ)) → Whole w rows → (i : ℕ) → i < length rows → rows_of w (concat rows) i 1 ≡ get_or rows i []
unfolding rows_of
row_of w [] whole i h = absurd (omega arith)
row_of w (x ∷ rows) whole zero h =
    let e : 1 * w ≡ length x = omega (arith, whole 0 h) in
    rw (e, zero-mul w) (take-append_seam x (concat rows))
row_of w (x ∷ rows) whole (suc i) h =
    let e : suc i * w ≡ length x + i * w = omega (arith, whole 0 (omega arith)) in
    rw (e, drop-append-add x (concat rows) (i * w)) (row_of w rows (λ j l. whole (suc j) (omega arith)) i (omega arith))

pub word_of : (w : ℕ) (rows : List (List ℕ)) → Whole w rows → (i j : ℕ) → i < length rows → j < w
    → get_or (concat rows) (i * w + j) 0 ≡ get_or (get_or rows i []) j 0
unfolding rows_of
word_of w rows whole i j h l =
    sym (get_or-drop (i * w) (concat rows) j 0) ∙ sym (get_or-take (1 * w) (drop (i * w) (concat rows)) j 0 (omega arith))
    ∙ ap (λ (row : List ℕ). get_or row j 0) (row_of w rows whole i h)
