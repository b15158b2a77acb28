-- A row of transitions, one turn of its loop at a time: the refusals and the sum together. Assumes nothing.
use Rattle.std.proofs.Common.{◌≡◌, ℕ, zero, suc, ◌+◌, ◌*◌, ◌-◌, ◌%◌, ◌≤◌, ◌<◌, List, [], ◌∷◌, length, get_or, drop, refl, sym, ap, ◌∙◌, arith, eqb, ne_eqb}
use Rattle.std.proofs.lemmas.Bool.{le-leb, lt-leb}
use Rattle.std.specs.Prelude.{Bool, true, false, cond, Float, leb}
use native.Mathlib.Nat.{sub-zero, zero-mul}
use Rattle.std.proofs.lemmas.List.{get_or-take, get_or-drop}
use Rattle.std.specs.List.{concat}
use mathlib.Core.Bool.{or-false}
use lib.Ieee.{binary32, of_bits, add}
use Rattle.refusal.specs.declared.Refusal.{Refusal}
use Rattle.refusal.specs.Refusal.{number}
use Rattle.machine.specs.State.{target_at, probability_at, rows_of}
use Rattle.rows.specs.First.{or_else, first_refusal}
use Rattle.rows.specs.Row.{is_target, probability_word, transition_refusal, seen_in, seen_before, sum_from, sum_refusal, row_refusal, pair_refusal}
use Rattle.rows.specs.First.Laws.{refused, second, former, first_on, first_here, first_end}
use Rattle.rows.proofs.Chunks.{Whole, word_of}

-- the refusal of transition i of a row
abbrev pub at : List ℕ → ℕ → ℕ → ℕ
at ts n i = transition_refusal ts n i (seen_before ts 0 i)

-- what is left of a row's check from transition i on
unfoldable pub rest : List ℕ → ℕ → ℕ → ℕ → Float → ℕ
rest ts n e i sum = or_else (first_refusal (at ts n) (e - i) i) (sum_refusal (sum_from ts i (e - i) sum))

-- whether the target repeats counts only where there is one
pub by_seen : (ts : List ℕ) (n i : ℕ) (seen : Bool) → (is_target n (target_at ts i) ≡ true → seen ≡ seen_before ts 0 i)
    → transition_refusal ts n i seen ≡ at ts n i
unfolding transition_refusal
by_seen ts n i seen is = either (is_target n (target_at ts i)) refl
  where
    either : (b : Bool) → is_target n (target_at ts i) ≡ b → transition_refusal ts n i seen ≡ at ts n i
    either true p = rw (is p)
    either false p = rw p

-- a transition that passes has a target
pub passed : (ts : List ℕ) (n i : ℕ) (seen : Bool) → transition_refusal ts n i seen ≡ 0 → is_target n (target_at ts i) ≡ true
unfolding transition_refusal
passed ts n i seen e = target (leb 4294967296 (probability_word ts i)) (is_target n (target_at ts i)) _ e
  where
    target : (a b : Bool) (x : ℕ) → cond a 9 (cond b x 10) ≡ 0 → b ≡ true
    target true b x p = absurd (let z : ⊥ = omega arith in z)
    target false true x p = refl
    target false false x p = absurd (let z : ⊥ = omega arith in z)

-- ---- turn by turn
pub row_starts : (ts : List ℕ) (n e : ℕ) → row_refusal ts n 0 e ≡ rest ts n e 0 (of_bits binary32 0)
unfolding rest row_refusal
row_starts ts n e = rw (sub-zero e)

module _ (ts : List ℕ) (n e i : ℕ) (sum : Float) where
  sum-on : i < e → sum_from ts i (e - i) sum ≡ sum_from ts (i + 1) (e - (i + 1)) (add binary32 sum (probability_at ts i))
  unfolding sum_from
  sum-on h = let one : e - i ≡ suc (e - (i + 1)) = omega arith in rw one

  pub row_on : i < e → at ts n i ≡ 0 → rest ts n e i sum ≡ rest ts n e (i + 1) (add binary32 sum (probability_at ts i))
  unfolding rest
  row_on h p = rw (first_on (at ts n) e i h p, sum-on h)

  pub row_stops : i < e → (r : Refusal) → number r ≡ at ts n i → number r ≡ rest ts n e i sum
  unfolding rest
  row_stops h r p =
      let some : at ts n i ≡ 0 → ⊥ = λ z. refused r (p ∙ z) in
      p ∙ sym (rw (first_here (at ts n) e i h some) (former _ some))

  pub row_ends : e ≤ i → rest ts n e i sum ≡ sum_refusal sum
  unfolding rest sum_from
  row_ends h = let none : e - i ≡ zero = omega arith in rw (first_end (at ts n) e i h, none) (second refl)

-- ---- of rows of two words each: their transition i
module _ (rows : List (List ℕ)) (n i : ℕ) (whole : Whole 2 rows) (in-row : i < length rows) where
  word : (j : ℕ) → j < 2 → get_or (concat rows) (i * 2 + j) 0 ≡ get_or (get_or rows i []) j 0
  word j h = word_of 2 rows whole i j in-row h

  pub target_is : get_or (get_or rows i []) 0 0 ≡ target_at (concat rows) i
  target_is = let e : i * 2 + 0 ≡ i * 2 = omega arith in sym (rw e at (word 0 (omega arith)))

  pub probability_is : get_or (get_or rows i []) 1 0 ≡ probability_word (concat rows) i
  probability_is = sym (word 1 (omega arith))

  pub transition_is : (seen : Bool) → transition_refusal (get_or rows i []) n 0 seen ≡ transition_refusal (concat rows) n i seen
  unfolding transition_refusal
  transition_is seen = rw (zero-mul 2, target_is, probability_is)

  -- its turn, with what was seen
  module _ (seen : Bool) (known : is_target n (target_at (concat rows) i) ≡ true → seen ≡ seen_before (concat rows) 0 i) (sum : Float) where
    pub turn_stops : (r : Refusal) → number r ≡ transition_refusal (get_or rows i []) n 0 seen → number r ≡ rest (concat rows) n (length rows) i sum
    turn_stops r p = row_stops (concat rows) n (length rows) i sum in-row r (p ∙ transition_is seen ∙ by_seen (concat rows) n i seen known)

    pub turn_has : 0 ≡ transition_refusal (get_or rows i []) n 0 seen → is_target n (target_at (concat rows) i) ≡ true
    turn_has p = passed (concat rows) n i seen (sym (p ∙ transition_is seen))

    pub turn_on : 0 ≡ transition_refusal (get_or rows i []) n 0 seen → rest (concat rows) n (length rows) i sum
        ≡ rest (concat rows) n (length rows) (i + 1) (add binary32 sum (of_bits binary32 (get_or (get_or rows i []) 1 0 % 4294967296)))
    turn_on p =
        rw probability_is
        (row_on (concat rows) n (length rows) i sum in-row (sym (p ∙ transition_is seen ∙ by_seen (concat rows) n i seen known)))

-- ---- a row of one transition or two: no target stands before the first, and one before the second
module _ (a : List ℕ) (n : ℕ) (two : length a ≡ 2) where
  abbrev only : List (List ℕ)
  only = a ∷ []

  whole_one : Whole 2 only
  whole_one zero h = two
  whole_one (suc i) h = absurd (omega arith)

  only_at : at (concat only) n 0 ≡ transition_refusal a n 0 false
  unfolding seen_in
  only_at = sym (transition_is only n 0 whole_one (omega arith) false)

  only_sum : add binary32 (of_bits binary32 0) (of_bits binary32 (get_or a 1 0 % 4294967296))
      ≡ add binary32 (of_bits binary32 0) (probability_at (concat only) 0)
  only_sum = rw (probability_is only n 0 whole_one (omega arith))

  pub one_ends : 0 ≡ transition_refusal a n 0 false
      → sum_refusal (add binary32 (of_bits binary32 0) (of_bits binary32 (get_or a 1 0 % 4294967296))) ≡ row_refusal (concat only) n 0 1
  one_ends p =
      rw only_sum
      (sym (row_starts (concat only) n 1 ∙ row_on (concat only) n 1 0 _ (omega arith) (only_at ∙ sym p)
      ∙ row_ends (concat only) n 1 1 _ (omega arith)))

  pub one_stops : (r : Refusal) → number r ≡ transition_refusal a n 0 false → number r ≡ row_refusal (concat only) n 0 1
  one_stops r p =
      row_stops (concat only) n 1 0 _ (omega arith) r (p ∙ sym only_at) ∙ sym (row_starts (concat only) n 1)

module _ (a b : List ℕ) (n : ℕ) (two : length a ≡ 2) (too : length b ≡ 2) where
  abbrev both : List (List ℕ)
  both = a ∷ b ∷ []

  whole_both : Whole 2 both
  whole_both zero h = two
  whole_both (suc zero) h = too
  whole_both (suc (suc i)) h = absurd (omega arith)

  first-at : at (concat both) n 0 ≡ transition_refusal a n 0 false
  unfolding seen_in
  first-at = sym (transition_is both n 0 whole_both (omega arith) false)

  last-at : at (concat both) n 1 ≡ transition_refusal b n 0 (eqb (get_or a 0 0) (get_or b 0 0))
  unfolding seen_in
  last-at =
      rw (target_is both n 0 whole_both (omega arith), target_is both n 1 whole_both (omega arith))
      (rw (or-false (eqb (target_at (concat both) 0) (target_at (concat both) 1)))
      (sym (transition_is both n 1 whole_both (omega arith) _)))

  abbrev sum-one : List ℕ → Float
  sum-one t = add binary32 (of_bits binary32 0) (of_bits binary32 (get_or t 1 0 % 4294967296))

  past_first : 0 ≡ transition_refusal a n 0 false → row_refusal (concat both) n 0 2 ≡ rest (concat both) n 2 1 (sum-one a)
  past_first p =
      rw (probability_is both n 0 whole_both (omega arith))
      (row_starts (concat both) n 2 ∙ row_on (concat both) n 2 0 _ (omega arith) (first-at ∙ sym p))

  pub both_end : 0 ≡ transition_refusal a n 0 false → 0 ≡ transition_refusal b n 0 (eqb (get_or a 0 0) (get_or b 0 0))
      → sum_refusal (add binary32 (sum-one a) (of_bits binary32 (get_or b 1 0 % 4294967296))) ≡ row_refusal (concat both) n 0 2
  both_end p q =
      sym (past_first p ∙ row_on (concat both) n 2 1 _ (omega arith) (last-at ∙ sym q) ∙ row_ends (concat both) n 2 2 _ (omega arith)
      ∙ ap (λ (x : ℕ). sum_refusal (add binary32 (sum-one a) (of_bits binary32 (x % 4294967296)))) (sym (probability_is both n 1 whole_both (omega arith))))

  pub first_stops : (r : Refusal) → number r ≡ transition_refusal a n 0 false → number r ≡ row_refusal (concat both) n 0 2
  first_stops r p =
      row_stops (concat both) n 2 0 _ (omega arith) r (p ∙ sym first-at) ∙ sym (row_starts (concat both) n 2)

  pub last_stops : 0 ≡ transition_refusal a n 0 false → (r : Refusal)
      → number r ≡ transition_refusal b n 0 (eqb (get_or a 0 0) (get_or b 0 0)) → number r ≡ row_refusal (concat both) n 0 2
  last_stops p r q = row_stops (concat both) n 2 1 _ (omega arith) r (q ∙ sym last-at) ∙ sym (past_first p)

-- ---- a pair (first, count): its row is a part of the table
module _ (ts : List ℕ) (first count : ℕ) where
  abbrev row : List ℕ
  row = rows_of 2 ts first count

  word_in : (i j : ℕ) → i < count → j < 2 → get_or row (i * 2 + j) 0 ≡ get_or ts ((first + i) * 2 + j) 0
  unfolding rows_of
  word_in i j h l =
      let e : first * 2 + (i * 2 + j) ≡ (first + i) * 2 + j = omega arith in
      get_or-take (count * 2) (drop (first * 2) ts) (i * 2 + j) 0 (omega arith)
      ∙ get_or-drop (first * 2) ts (i * 2 + j) 0 ∙ ap (λ (m : ℕ). get_or ts m 0) e

  target_in : (i : ℕ) → i < count → target_at row i ≡ target_at ts (first + i)
  target_in i h =
      let a : i * 2 + 0 ≡ i * 2 = omega arith in
      let b : (first + i) * 2 + 0 ≡ (first + i) * 2 = omega arith in
      rw (a, b) at (word_in i 0 h (omega arith))

  word-in : (i : ℕ) → i < count → probability_word row i ≡ probability_word ts (first + i)
  word-in i h = word_in i 1 h (omega arith)

  seen-in : (x k j : ℕ) → j + k ≤ count → seen_in row x k j ≡ seen_in ts x k (first + j)
  unfolding seen_in
  seen-in x zero j h = refl
  seen-in x (suc k) j h =
      let e : first + (j + 1) ≡ first + j + 1 = omega arith in
      rw (target_in j (omega arith), seen-in x k (j + 1) (omega arith), e)

  at_in : (n i : ℕ) → i < count → at row n i ≡ transition_refusal ts n (first + i) (seen_before ts first (first + i))
  unfolding transition_refusal
  at_in n i h =
      let a : i - 0 ≡ i = omega arith in
      let b : first + i - first ≡ i = omega arith in
      let c : first + 0 ≡ first = omega arith in
      rw (a, b, seen-in (target_at row i) i 0 (omega arith), c, target_in i h, word-in i h)

  sum-in : (k i : ℕ) (sum : Float) → i + k ≤ count → sum_from row i k sum ≡ sum_from ts (first + i) k sum
  unfolding sum_from
  sum-in zero i sum h = refl
  sum-in (suc k) i sum h =
      let e : first + (i + 1) ≡ first + i + 1 = omega arith in
      rw (word-in i (omega arith), sum-in k (i + 1) _ (omega arith), e)

  first-in : (n k i : ℕ) → i + k ≤ count
      → first_refusal (at row n) k i ≡ first_refusal (λ j. transition_refusal ts n j (seen_before ts first j)) k (first + i)
  unfolding first_refusal
  first-in n zero i h = refl
  first-in n (suc k) i h =
      let e : first + (i + 1) ≡ first + i + 1 = omega arith in
      rw (at_in n i (omega arith), first-in n k (i + 1) (omega arith), e)

  row_in : (n : ℕ) → row_refusal row n 0 count ≡ row_refusal ts n first count
  unfolding row_refusal
  row_in n =
      let e : first + 0 ≡ first = omega arith in
      rw (first-in n count 0 (omega arith), sum-in count 0 (of_bits binary32 0) (omega arith), e)

module _ (ts : List ℕ) (n first count : ℕ) where
  pub no_row : count ≡ 0 → 0 ≡ pair_refusal ts n first count
  unfolding pair_refusal
  no_row e = rw e

  pub beyond : (count ≡ 0 → ⊥) → length ts < (first + count) * 2 → 8 ≡ pair_refusal ts n first count
  unfolding pair_refusal
  beyond some h = rw (ne_eqb count 0 some, lt-leb _ _ h)

  pub within : (count ≡ 0 → ⊥) → (first + count) * 2 ≤ length ts → (words : List ℕ) (k : ℕ) → words ≡ rows_of 2 ts first count → k ≡ count
      → row_refusal words n 0 k ≡ pair_refusal ts n first count
  unfolding pair_refusal
  within some h words k is all = rw (is, all, ne_eqb count 0 some, le-leb _ _ h) (row_in ts first count n)
