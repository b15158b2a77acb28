-- The columns of a word from the left: what each byte makes of the number so far is what the columns of a number have there.
use Prim.Native.Nat.{ℕ, zero, suc, ◌+◌, ◌-◌, ◌*◌, ◌/◌, ◌%◌, ◌^◌, ◌≤◌, ◌<◌}
use mathlib.Core.Path.{◌≡◌, refl, sym, ap, ◌∙◌, subst}
use mathlib.Core.Bool.{Bool, true, false, cond, and-eq-true_iff, false≢true}
use mathlib.Core.List.{List, [], ◌∷◌, ◌++◌}
use native.Mathlib.Omega.{arith}
use native.Mathlib.Numerals.{add-one}
use native.Mathlib.Nat.{pow-suc, pow-zero, pow-le-pow_right, add-zero, add-suc}
use lib.ListN.{length, take, drop, get_or}
use lib.Seq.{take_all, take-append-le, take-suc, take_at, get_or_at, get_or-take, get_or-drop, take-take, take-length}
use lib.Dec.{eqb, ltb, leb, lit<}
use borrow.Author.Tests.{eqb-true, eqb-false, leb-true, ltb-true, ltb-false, eq-eqb, ne_eqb, le-leb, lt-ltb, le-ltb}
use Rattle.columns.specs.Digits.{read_back}
use Rattle.columns.specs.Columns.{right}
use Rattle.columns.proofs.ByColumn.{mark, rests, length-rests, read_rests, right_ends}
use Rattle.cells.specs.Cells.{word_columns, is_cell, cell_of}
use Rattle.cells.specs.Laws.{cell_columns, columns_cell, spells}
use Rattle.std.specs.Prelude.{Option, Some, None}
use Rattle.std.specs.Option.{SomeIff, is_some}
use Rattle.std.specs.Bool.{then_some}
use Rattle.std.proofs.Math.Bool.{not}
use Rattle.cells.specs.Digits.{is_digit, digit_of, column_of, last_of}

-- ---- digits

pub digit_bounds : (b : ℕ) → is_digit b ≡ true → (48 ≤ b) × (b ≤ 57)
unfolding is_digit
digit_bounds b h =
    let g = (and-eq-true_iff (leb 48 b) (leb b 57)).0 h in
    (leb-true 48 b g.0, leb-true b 57 g.1)

bounds_digit : (b : ℕ) → 48 ≤ b → b ≤ 57 → is_digit b ≡ true
unfolding is_digit
bounds_digit b l u = rw (le-leb 48 b l, le-leb b 57 u)

-- what a digit's value says of the byte
pub no_value : (b : ℕ) → None ≡ digit_of b → is_digit b ≡ false
unfolding digit_of
no_value b h = by-digit (is_digit b) refl h
  where
    by-digit : (d : Bool) → is_digit b ≡ d → None ≡ cond d (Some (b - 48)) None → is_digit b ≡ false
    by-digit true e g = cc
    by-digit false e g = e

pub value : (b d : ℕ) → Some d ≡ digit_of b → (is_digit b ≡ true) × (d ≡ b - 48) × (d < 10)
unfolding digit_of
value b d h = by-digit (is_digit b) refl h
  where
    by-digit : (t : Bool) → is_digit b ≡ t → Some d ≡ cond t (Some (b - 48)) None → (is_digit b ≡ true) × (d ≡ b - 48) × (d < 10)
    by-digit true e g =
        let v : d ≡ b - 48 = cc in
        let k = digit_bounds b e in
        (e, v, omega arith)
    by-digit false e g = cc

-- ---- one column, case by case

module _ (n b : ℕ) where
  pub space_column : b ≡ 32 → then_some {T = ℕ} (eqb n 0) 0 ≡ column_of n b
  unfolding column_of
  space_column e = rw (eq-eqb b 32 e) (by_zero (eqb n 0))
    where
      by_zero : (z : Bool) → then_some {T = ℕ} z 0 ≡ cond z (Some 0) None
      by_zero true = refl
      by_zero false = refl

  before_digits : b ≡ 32 → n ≡ 0 → Some 0 ≡ column_of n b
  unfolding column_of
  before_digits e z = rw (eq-eqb b 32 e, eq-eqb n 0 z)

  pub no_digit : (b ≡ 32 → ⊥) → is_digit b ≡ false → None ≡ column_of n b
  unfolding column_of
  no_digit e d = rw (ne_eqb b 32 e, d)

  pub digit_column : (d : ℕ) → (b ≡ 32 → ⊥) → Some d ≡ digit_of b → then_some (not (eqb (n * 10 + d) 0)) (n * 10 + d) ≡ column_of n b
  unfolding column_of
  digit_column d e h =
      let v = value b d h in
      rw (ne_eqb b 32 e, v.0, v.1) (by_zero (eqb (n * 10 + (b - 48)) 0))
    where
      by_zero : (z : Bool) → then_some (not z) (n * 10 + (b - 48)) ≡ cond z None (Some (n * 10 + (b - 48)))
      by_zero true = refl
      by_zero false = refl

  one_digit : (b ≡ 32 → ⊥) → is_digit b ≡ true → (n * 10 + (b - 48) ≡ 0 → ⊥) → Some (n * 10 + (b - 48)) ≡ column_of n b
  unfolding column_of
  one_digit e d z = rw (ne_eqb b 32 e, d, ne_eqb (n * 10 + (b - 48)) 0 z)

  -- ---- the last
  pub last_other : is_digit b ≡ false → None ≡ last_of n b
  unfolding last_of
  last_other d = rw d

  -- its digit d makes a word, or one that is too large
  pub last_large : (d : ℕ) → Some d ≡ digit_of b → 2 ^ 64 ≤ n * 10 + d → None ≡ last_of n b
  unfolding last_of
  last_large d h g =
      let v = value b d h in
      rw (v.0, le-ltb (n * 10 + (b - 48)) (2 ^ 64) (omega arith))

  pub last_digit : (d t : ℕ) (r : Option ℕ) → Some d ≡ digit_of b → t ≡ n * 10 → SomeIff r (t + d < 2 ^ 64) (t + d) → r ≡ last_of n b
  unfolding last_of
  last_digit d t None h e g = last_large d h (omega arith)
  last_digit d t (Some w) h e g =
      let v = value b d h in
      let k : w ≡ n * 10 + (b - 48) = omega (arith, g.1) in
      rw (v.0, lt-ltb (n * 10 + (b - 48)) (2 ^ 64) (omega (arith, g.0)), k)

-- ---- the columns of a number, from the left

-- what is left of a number without its last j digits
abbrev cut : ℕ → ℕ → ℕ
cut zero x = x
cut (suc j) x = cut j (x / 10)

-- the first columns are those of what is left
front : (i j x : ℕ) → take i (rests (i + j) x) ≡ rests i (cut j x)
unfolding rests
front i zero x = rw add-zero (take_all i (rests i x) (omega (arith, length-rests i x)))
front i (suc j) x =
    rw (add-suc)
    (take-append-le i (rests (i + j) (x / 10)) (mark x ∷ []) (omega (arith, length-rests (i + j) (x / 10)))
    ∙ front i j (x / 10))

smaller : (k j x : ℕ) → x < 10 ^ (k + j) → cut j x < 10 ^ k
smaller k zero x h = rw add-zero at h
smaller k (suc j) x h =
    smaller k j (x / 10) (omega (arith, pow-suc 10 (k + j), subst (λ (e : ℕ). x < 10 ^ e) (add-suc k j) h))

-- two numbers with the same columns are one
one_number : (w a b : ℕ) → a < 10 ^ w → b < 10 ^ w → rests w a ≡ rests w b → a ≡ b
one_number w a b h g e = sym (read_rests w a h) ∙ ap read_back e ∙ read_rests w b g

-- the first column has no digit, so a number of i + 1 columns is below 10 ^ i
below : (i n : ℕ) → n < 10 ^ i → n < 10 ^ (i + 1)
below i n h = rw add-one (omega (arith, pow-suc 10 i))

below_next : (i n m : ℕ) → n < 10 ^ i → m / 10 ≡ n → m < 10 ^ (i + 1)
below_next i n m h e = rw add-one (omega (arith, pow-suc 10 i))

-- one column more of the number m
grows : (bytes : List ℕ) (i m : ℕ) → i < length bytes → take i bytes ≡ rests i (m / 10) → get_or bytes i 0 ≡ mark m
    → take (i + 1) bytes ≡ rests (i + 1) m
unfolding rests
grows bytes i m l e b = rw (add-one, take-suc bytes i 0 l, e, b)

module _ (bytes : List ℕ) (v : ℕ) (is_right : bytes ≡ right word_columns v) where
  is : bytes ≡ rests 20 (v / 10) ++ ((48 + v % 10) ∷ [])
  is = is_right ∙ right_ends 20 v

  -- column i of a word, with j columns behind it before the last
  at-column : (i j : ℕ) → suc i + j ≡ 20
      → (take i bytes ≡ rests i (cut j (v / 10) / 10)) × (get_or bytes i 0 ≡ mark (cut j (v / 10)))
  unfolding rests
  at-column i j e =
      let m : ℕ = cut j (v / 10) in
      let R : List ℕ = rests 20 (v / 10) in
      let r : length (rests i (m / 10)) ≡ i = length-rests i (m / 10) in
      let f : take (suc i) R ≡ rests (suc i) m = subst (λ (k : ℕ). take (suc i) (rests k (v / 10)) ≡ rests (suc i) m) e (front (suc i) j (v / 10)) in
      let t : take (suc i) bytes ≡ rests i (m / 10) ++ (mark m ∷ []) =
      ap (take (suc i)) is ∙ take-append-le (suc i) R _ (omega (arith, length-rests 20 (v / 10))) ∙ f in
      let g : get_or (take (suc i) bytes) i 0 ≡ get_or bytes i 0 = get_or-take (suc i) bytes i 0 (omega arith) in (
        sym (take-take i (suc i) bytes (omega arith)) ∙ ap (take i) t ∙ take_at (rests i (m / 10)) (mark m ∷ []) i r,
        sym g ∙ ap (λ (l : List ℕ). get_or l i 0) t ∙ get_or_at (rests i (m / 10)) (mark m) [] 0 i r,
      )

  -- the last
  at_last : (take 20 bytes ≡ rests 20 (v / 10)) × (get_or bytes 20 0 ≡ 48 + v % 10)
  at_last =
      let r = length-rests 20 (v / 10) in (
        ap (take 20) is ∙ take_at (rests 20 (v / 10)) ((48 + v % 10) ∷ []) 20 r,
        ap (λ (l : List ℕ). get_or l 20 0) is ∙ get_or_at (rests 20 (v / 10)) (48 + v % 10) [] 0 20 r,
      )

-- the columns between the first and the last
between : (bytes : List ℕ) (k : ℕ) → k < 19 → get_or (take 19 (drop 1 bytes)) k 0 ≡ get_or bytes (k + 1) 0
between bytes k h =
    let e : 1 + k ≡ k + 1 = omega arith in
    get_or-take 19 (drop 1 bytes) k 0 h ∙ get_or-drop 1 bytes k 0 ∙ ap (λ (i : ℕ). get_or bytes i 0) e

-- ---- what a column makes of the number so far

-- the byte that m has there takes m without its last digit on to m
column_on : (m : ℕ) → Some m ≡ column_of (m / 10) (mark m)
column_on m = by_zero (eqb m 0) refl
  where
    by_zero : (z : Bool) → eqb m 0 ≡ z → Some m ≡ column_of (m / 10) (mark m)
    by_zero true e =
        let z : m ≡ 0 = eqb-true m 0 e in
        rw e (ap Some z ∙ before_digits (m / 10) 32 refl (omega arith))
    by_zero false e =
        let ne : (m ≡ 0 → ⊥) = eqb-false m 0 e in
        let v : m / 10 * 10 + (48 + m % 10 - 48) ≡ m = omega arith in
        rw e (ap Some (sym v) ∙ one_digit (m / 10) (48 + m % 10) (λ z. omega (arith, z)) (bounds_digit (48 + m % 10) (omega arith) (omega arith)) (λ z. ne (sym v ∙ z)))

-- and no other byte goes on
on_column : (n b m : ℕ) → column_of n b ≡ Some m → (m / 10 ≡ n) × (b ≡ mark m)
unfolding column_of
on_column n b m h = by-space (eqb b 32) refl h
  where
    by_zero : (z : Bool) → eqb n 0 ≡ z → b ≡ 32 → cond z (Some 0) None ≡ Some m → (m / 10 ≡ n) × (b ≡ mark m)
    by_zero true e s g =
        let z : 0 ≡ m = cc in
        (omega (arith, eqb-true n 0 e, z), rw (← z) s)
    by_zero false e s g = cc (g)

    by-grown : (z : Bool) → eqb (n * 10 + (b - 48)) 0 ≡ z → 48 ≤ b → b ≤ 57
        → cond z None (Some (n * 10 + (b - 48))) ≡ Some m
        → (m / 10 ≡ n) × (b ≡ mark m)
    by-grown true e l u g = cc (g)
    by-grown false e l u g =
        let v : n * 10 + (b - 48) ≡ m = cc in
        let ne : eqb m 0 ≡ false = rw v at e in
        (omega arith, rw ne (omega arith))

    by-digit : (d : Bool) → is_digit b ≡ d
        → cond d (cond (eqb (n * 10 + (b - 48)) 0) None (Some (n * 10 + (b - 48)))) None ≡ Some m
        → (m / 10 ≡ n) × (b ≡ mark m)
    by-digit true e g = let d = digit_bounds b e in by-grown (eqb (n * 10 + (b - 48)) 0) refl d.0 d.1 g
    by-digit false e g = cc (g)

    by-space : (s : Bool) → eqb b 32 ≡ s
        → cond s (cond (eqb n 0) (Some 0) None) (cond (is_digit b) (cond (eqb (n * 10 + (b - 48)) 0) None (Some (n * 10 + (b - 48)))) None) ≡ Some m
        → (m / 10 ≡ n) × (b ≡ mark m)
    by-space true e g = by_zero (eqb n 0) refl (eqb-true b 32 e) g
    by-space false e g = by-digit (is_digit b) refl g

-- ---- the cell

-- bytes that are the columns of no word
no_word : (bytes : List ℕ) → ((v : ℕ) → v < 2 ^ 64 → bytes ≡ right word_columns v → ⊥) → cell_of bytes ≡ None
unfolding cell_of
no_word bytes h = by-cell (is_cell bytes) refl
  where
    by-cell : (b : Bool) → is_cell bytes ≡ b
        → cond b (Some (read_back bytes)) None ≡ None
    by-cell true e = let g = cell_columns bytes e in absurd (h (read_back bytes) g.1 g.0)
    by-cell false e = refl

module _ (bytes : List ℕ) (i n : ℕ) (so_far : take i bytes ≡ rests i n) (small : n < 10 ^ i) where
  -- a byte that goes on with no number
  stops : i < 20 → column_of n (get_or bytes i 0) ≡ None → None ≡ cell_of bytes
  stops l off = sym (no_word bytes no)
    where
      no : (v : ℕ) → v < 2 ^ 64 → bytes ≡ right word_columns v → ⊥
      no v h is =
          let j : ℕ = 19 - i in
          let m : ℕ = cut j (v / 10) in
          let a = at-column bytes v is i j (omega arith) in
          let w : v / 10 < 10 ^ (suc i + j) =
          subst (λ (k : ℕ). v / 10 < 10 ^ k) {x = 20} (omega arith) (omega (arith, lit< {m = 2 ^ 64} {n = 10 ^ 20} tt)) in
          let b : m / 10 < 10 ^ i = omega (arith, smaller (suc i) j (v / 10) w, pow-suc 10 i) in
          let e : m / 10 ≡ n = one_number i (m / 10) n b small (sym a.0 ∙ so_far) in
          let on : Some m ≡ column_of n (get_or bytes i 0) = rw (← e, a.1) (column_on m) in
          cc

-- byte i + 1, where the columns before it are those of the number n
module _ (bytes : List ℕ) (i n : ℕ) (so_far : take (i + 1) bytes ≡ rests (i + 1) n) (small : n < 10 ^ i) (more : i < 19) where
  abbrev next : ℕ
  next = get_or (take 19 (drop 1 bytes)) i 0

  -- the number is small enough for a digit more
  pub few_digits : n < 10 ^ 18
  few_digits = omega (arith, pow-le-pow_right {n = 10} (omega arith) {i = i} {j = 18} (omega arith))

  pub stopped : None ≡ column_of n next → None ≡ cell_of bytes
  stopped off = stops bytes (i + 1) n so_far (below i n small) (omega arith) (rw (between bytes i more) at (sym off))

  pub gone_on : (m : ℕ) → i + 1 < length bytes → Some m ≡ column_of n next
      → (m < 10 ^ (i + 1)) × (take (i + 1 + 1) bytes ≡ rests (i + 1 + 1) m)
  gone_on m l on =
      let g = on_column n next m (sym on) in
      (below_next i n m small g.0, grows bytes (i + 1) m l (rw g.0 so_far) (sym (between bytes i more) ∙ g.1))

module _ (bytes : List ℕ) where
  -- no word has 21 digits
  pub first_digit : (get_or bytes 0 0 ≡ 32 → ⊥) → None ≡ cell_of bytes
  first_digit h = sym (no_word bytes no)
    where
      no : (v : ℕ) → v < 2 ^ 64 → bytes ≡ right word_columns v → ⊥
      no v l is =
          let w : v / 10 < 10 ^ 19 = omega (arith, lit< {m = 2 ^ 64} {n = 10 ^ 20} tt, pow-suc 10 19) in
          let z : cut 19 (v / 10) ≡ 0 = omega (arith, smaller 0 19 (v / 10) w, pow-zero 10) in
          h (rw z at (at-column bytes v is 0 19 refl).1)

  pub first_space : 0 < length bytes → get_or bytes 0 0 ≡ 32 → take 1 bytes ≡ rests 1 0
  unfolding rests
  first_space l h = grows bytes 0 0 l refl h

  module _ (n : ℕ) (whole : length bytes ≡ 21) (so_far : take 20 bytes ≡ rests 20 n) (small : n < 10 ^ 20) where
    -- all columns of the word v
    of_word : (v : ℕ) → v < 2 ^ 64 → v / 10 ≡ n → get_or bytes 20 0 ≡ 48 + v % 10
        → Some v ≡ cell_of bytes
    unfolding cell_of
    of_word v h e b =
        let is : bytes ≡ right word_columns v =
        sym (take-length bytes) ∙ ap (λ (k : ℕ). take k bytes) whole ∙ take-suc bytes 20 0 (omega arith) ∙ rw (so_far, ← e, b) (sym (right_ends 20 v)) in
        rw (is, columns_cell v h, spells v h)

    abbrev B : ℕ
    B = get_or bytes 20 0

    abbrev W : ℕ
    W = n * 10 + (B - 48)

    -- a word that stands there passes all tests
    no_last : ((v : ℕ) → v < 2 ^ 64 → v / 10 ≡ n → B ≡ 48 + v % 10 → ⊥) → None ≡ cell_of bytes
    no_last k = sym (no_word bytes clash)
      where
        clash : (v : ℕ) → v < 2 ^ 64 → bytes ≡ right word_columns v → ⊥
        clash v h is =
            let a = at_last bytes v is in
            let s : v / 10 < 10 ^ 20 = omega (arith, lit< {m = 2 ^ 64} {n = 10 ^ 20} tt) in
            k v h (one_number 20 (v / 10) n s small (sym a.0 ∙ so_far)) a.1

    pub ends : last_of n B ≡ cell_of bytes
    unfolding last_of
    ends = by_tests (is_digit B) refl (ltb W (2 ^ 64)) refl
      where
        by_tests : (d : Bool) → is_digit B ≡ d → (z : Bool) → ltb W (2 ^ 64) ≡ z
            → cond d (cond z (Some W) None) None ≡ cell_of bytes
        by_tests true e true g =
            let d = digit_bounds B e in
            of_word W (ltb-true _ _ g) (omega arith) (omega arith)
        by_tests true e false g = no_last (λ v h d b. omega (arith, ltb-false W (2 ^ 64) g))
        by_tests false e z g =
            no_last (λ v h d b. false≢true (sym e ∙ bounds_digit B (omega (arith, b)) (omega (arith, b))))

-- ---- a cell at a place

-- the part of so many bytes from `at` on
pub part : (bytes : List ℕ) (at n : ℕ) → take (at + n - at) (drop at bytes) ≡ take n (drop at bytes)
part bytes at n =
    let k : at + n - at ≡ n = omega arith in
    ap (λ (i : ℕ). take i (drop at bytes)) k

cell_test : (bytes : List ℕ) → is_some (cell_of bytes) ≡ is_cell bytes
unfolding cell_of
cell_test bytes = by-cell (is_cell bytes)
  where
    by-cell : (t : Bool) → is_some (cond t (Some (read_back bytes)) None) ≡ t
    by-cell true = refl
    by-cell false = refl

-- a word was read there, or none
pub tested : (r : Option ℕ) (bytes : List ℕ) (at : ℕ) (b : Bool) → r ≡ cell_of (take (at + word_columns - at) (drop at bytes))
    → is_some r ≡ b
    → is_cell (take word_columns (drop at bytes)) ≡ b
tested r bytes at b h g =
    let e : r ≡ cell_of (take word_columns (drop at bytes)) = h ∙ ap cell_of (part bytes at word_columns) in
    sym (cell_test (take word_columns (drop at bytes))) ∙ ap is_some (sym e) ∙ g
