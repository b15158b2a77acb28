-- What a store does to spaces and digits that are left to write, and digits over spaces.
use Prim.Native.Nat.{ℕ, suc, ◌+◌, ◌-◌, ◌/◌, ◌%◌, ◌≤◌, ◌<◌}
use mathlib.Core.Path.{◌≡◌, sym, ap, ◌∙◌}
use mathlib.Core.List.{List, [], ◌∷◌, ◌++◌, append_assoc}
use native.Mathlib.Omega.{arith}
use native.Mathlib.Nat.{sub-zero}
use lib.ListN.{length, take, drop, set, replicate, length-set, length-append, length-drop, length-replicate, replicate-append-replicate, take-append-drop}
use lib.Seq.{set_split, length-take-le, drop_at, take_at, take-set-le, drop-drop}
use Rattle.columns.specs.Digits.{digits}
use Rattle.columns.specs.Columns.{last_digits, cell_in}
use Rattle.columns.proofs.Fits.{right_is, length_last}
use Rattle.columns.proofs.ByColumn.{last_none, last_one, last_more}
use Rattle.columns.specs.Parts.{spaces_in, digits_in}

-- ---- spaces

-- spaces in the part from `at` up to `end`, and what stands beside it
pub spaced : (l ys : List ℕ) (at end : ℕ) → at ≤ end → end ≤ length l → ys ≡ replicate (length (take (end - at) (drop at l))) 32
    → take at l ++ (ys ++ drop (end - at) (drop at l)) ≡ spaces_in at end l
unfolding spaces_in
spaced l ys at end h b e =
    let k : length (take (end - at) (drop at l)) ≡ end - at =
    length-take-le (end - at) (drop at l) (omega (arith, length-drop at l)) in
    let m : at + (end - at) ≡ end = omega arith in
    rw (e, k, drop-drop (end - at) at l, m)

-- ---- digits

-- the text from the place of a store on
stored : (l : List ℕ) (i a : ℕ) → i < length l → drop i (set l i a) ≡ a ∷ drop (suc i) l
stored l i a h =
    ap (drop i) (set_split l i a h)
    ∙ drop_at (take i l) (a ∷ drop (suc i) l) i (length-take-le i l (omega arith))

module _ (l : List ℕ) (at n : ℕ) where
  -- no column is left
  pub no_digit : digits_in at at n l ≡ l
  unfolding digits_in
  no_digit =
      let z : at - at ≡ 0 = omega arith in
      rw (z, last_none n, sub-zero) (take-append-drop at l)

  module _ (end j : ℕ) (e : end ≡ suc j) (h : at ≤ j) (b : j < length l) where
    -- the first digit
    pub first_digit : n < 10 → set l j (48 + n) ≡ digits_in at end n l
    unfolding digits_in
    first_digit s =
        let k : suc j - at ≡ suc (j - at) = omega arith in
        let m : suc j - 1 ≡ j = omega arith in
        rw (e, k, last_one (j - at) n s, m) (set_split l j (48 + n) b)

    -- a digit, and those of the tenth before it
    pub one_digit : 10 ≤ n → digits_in at j (n / 10) (set l j (48 + n % 10)) ≡ digits_in at end n l
    unfolding digits_in
    one_digit s =
        let D : List ℕ = last_digits (j - at) (n / 10) in
        let k : suc j - at ≡ suc (j - at) = omega arith in
        let m : suc j - length (D ++ ((48 + n % 10) ∷ [])) ≡ j - length D =
        omega (arith, length-append D ((48 + n % 10) ∷ [])) in
        rw (e, k, last_more (j - at) n s, m, stored l j (48 + n % 10) b, take-set-le (j - length D) l j (48 + n % 10) (omega arith))
        (ap (λ (x : List ℕ). take (j - length D) l ++ x) (sym (append_assoc D ((48 + n % 10) ∷ []) (drop (suc j) l))))

module _ (l : List ℕ) (at n end : ℕ) (inside : end ≤ length l) where
  -- one column is left
  pub one_left : end ≡ at + 1 → 10 ≤ n → set l (end - 1) (48 + n % 10) ≡ digits_in at end n l
  one_left e h =
      let z : end - 1 ≡ at = omega arith in
      let t : List ℕ = set l (end - 1) (48 + n % 10) in
      sym (no_digit t at (n / 10))
      ∙ ap (λ (i : ℕ). digits_in at i (n / 10) t) (sym z)
      ∙ one_digit l at n end (end - 1) (omega arith) (omega arith) (omega arith) h

  module _ (room : at + 2 ≤ end) where
    -- two digits are left
    pub two_left : 10 ≤ n → n < 100 → set (set l (end - 1) (48 + n % 10)) (end - 2) (48 + n / 10) ≡ digits_in at end n l
    two_left h u =
        let t : List ℕ = set l (end - 1) (48 + n % 10) in
        let k : length t ≡ length l = length-set l (end - 1) (48 + n % 10) in
        first_digit t at (n / 10) (end - 1) (end - 2) (omega arith) (omega arith) (omega arith) (omega arith)
        ∙ one_digit l at n end (end - 1) (omega arith) (omega arith) (omega arith) h

    -- two digits, and those of the hundredth before them
    pub two_more : 100 ≤ n
        → digits_in at (end - 2) (n / 100) (set (set l (end - 1) (48 + n % 100 % 10)) (end - 2) (48 + n % 100 / 10))
        ≡ digits_in at end n l
    two_more h =
        let a : n % 100 % 10 ≡ n % 10 = omega arith in
        let q : n / 100 ≡ n / 10 / 10 = omega arith in
        let b : n % 100 / 10 ≡ n / 10 % 10 = omega (arith, q) in
        let t : List ℕ = set l (end - 1) (48 + n % 10) in
        let k : length t ≡ length l = length-set l (end - 1) (48 + n % 10) in
        rw (a, b, q)
        (one_digit t at (n / 10) (end - 1) (end - 2) (omega arith) (omega arith) (omega arith) (omega arith)
        ∙ one_digit l at n end (end - 1) (omega arith) (omega arith) (omega arith) (omega arith))

-- ---- digits over spaces

module _ (l : List ℕ) (at w n : ℕ) where
  over_spaces : at + w ≤ length l → digits_in at (at + w) n (spaces_in at (at + w) l) ≡ cell_in at w n l
  unfolding digits_in spaces_in cell_in
  over_spaces h =
      let z : at + w - at ≡ w = omega arith in
      let D : List ℕ = last_digits w n in
      let k : length D ≡ length (digits n) - (length (digits n) - w) = length_last w n in
      let S : List ℕ = replicate (w - length (digits n)) 32 in
      let P : List ℕ = take at l ++ S in
      let a : length (take at l) ≡ at = length-take-le at l (omega arith) in
      let p : length P ≡ at + w - length D = length-append (take at l) S ∙ rw (a, length-replicate) (omega arith) in
      let c : w - length (digits n) + length D ≡ w = omega arith in
      let q : replicate w 32 ≡ S ++ replicate (length D) 32 =
      ap (λ (i : ℕ). replicate i 32) (sym c) ∙ sym (replicate-append-replicate (w - length (digits n)) (length D) 32) in
      let T : List ℕ = take at l ++ (replicate w 32 ++ drop (at + w) l) in
      let t : take (at + w - length D) T ≡ P =
      rw (q, append_assoc S (replicate (length D) 32) (drop (at + w) l), ← (append_assoc (take at l) S (replicate (length D) 32 ++ drop (at + w) l)))
      (take_at P (replicate (length D) 32 ++ drop (at + w) l) (at + w - length D) p) in
      let d : drop (at + w) T ≡ drop (at + w) l =
      rw (← (append_assoc (take at l) (replicate w 32) (drop (at + w) l)))
      (drop_at (take at l ++ replicate w 32) (drop (at + w) l) (at + w) (length-append (take at l) (replicate w 32) ∙ rw (a, length-replicate) (omega arith))) in
      rw (z, t, d, right_is w n) (simp append_assoc)

  -- all columns become spaces, and the digits go over them
  pub celled : (spaces out : List ℕ) → spaces ≡ spaces_in at (at + w) l → out ≡ digits_in at (at + w) n spaces → at + w ≤ length l
      → out ≡ cell_in at w n l
  celled spaces out s d h = d ∙ ap (digits_in at (at + w) n) s ∙ over_spaces h
