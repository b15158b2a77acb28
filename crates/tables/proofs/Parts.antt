-- Rows of a table as arrays, and the loops over them. Assumes nothing.
use Rattle.std.proofs.Common.{◌≡◌, ℕ, ◌+◌, ◌*◌, ◌/◌, ◌%◌, ◌≤◌, ◌<◌, Bool, true, false, ◌&&◌, eqb, ◌⊎◌, inl, inr, List, [], length, get_or, take, drop, length-take, length-drop, refl, sym, ap, ◌∙◌, arith, ne_eqb, eq-eqb, eqb-true}
use Rattle.std.proofs.lemmas.Bool.{lt-ltb, le-ltb, le-leb, lt-leb}
use Rattle.std.proofs.lemmas.List.{get_or-take, get_or-drop}
use Rattle.std.proofs.Math.Seq.{take-length}
use Rattle.std.specs.List.{concat}
use Rattle.std.specs.Simd.{first_chunks}
use Rattle.machine.specs.Constants.{state_max, machine_words, state_words, transition_words}
use Rattle.machine.specs.State.{rows_of, first_of, count_of}
use Rattle.rows.proofs.Chunks.{word_at, words_of, length_of}
use Rattle.tables.specs.Machine.{each_state, states_refusal, machines_refusal, whole_tables}

-- ---- the pairs of a state's events
module _ (row : List ℕ) (pairs : List (List ℕ)) (full : length row ≡ 58)
    (are : pairs ≡ first_chunks 2 (length (take 26 (drop 32 row)) / 2) (take 26 (drop 32 row))) where
  words : length (take 26 (drop 32 row)) ≡ 26
  words = simp (length-take, length-drop) (omega arith)

  pub many : length pairs ≡ 13
  many = ap length are ∙ length_of 2 (length (take 26 (drop 32 row)) / 2) (take 26 (drop 32 row)) ∙ ap (λ (n : ℕ). n / 2) words

  word-of : (i j : ℕ) → i < 13 → j < 2 → get_or (get_or pairs i []) j 0 ≡ get_or row (32 + (i * 2 + j)) 0
  word-of i j h l =
      rw (are, words)
      (word_at 2 13 (take 26 (drop 32 row)) i j h l
      ∙ get_or-take 26 (drop 32 row) (i * 2 + j) 0 (omega arith) ∙ get_or-drop 32 row (i * 2 + j) 0)

  pub first_is : (i : ℕ) → i < length pairs → get_or (get_or pairs i []) 0 0 ≡ first_of row i
  first_is i h =
      let e : 32 + (i * 2 + 0) ≡ 32 + i * 2 = omega arith in
      word-of i 0 (omega (arith, many)) (omega arith) ∙ ap (λ (m : ℕ). get_or row m 0) e

  pub count_is : (i : ℕ) → i < length pairs → get_or (get_or pairs i []) 1 0 ≡ count_of row i
  count_is i h =
      let e : 32 + (i * 2 + 1) ≡ 32 + i * 2 + 1 = omega arith in
      word-of i 1 (omega (arith, many)) (omega arith) ∙ ap (λ (m : ℕ). get_or row m 0) e

-- ---- a machine's states
pub none_or_many : (states ts : List ℕ) (first n : ℕ) → (n ≡ 0) ⊎ ((n ≡ 0 → ⊥) × state_max < n) → 6 ≡ states_refusal states ts first n
unfolding states_refusal
none_or_many states ts first n (inl none) = rw (eq-eqb n 0 none)
none_or_many states ts first n (inr (some, many')) = rw (ne_eqb n 0 some, lt-ltb state_max n many')

module _ (states ts : List ℕ) (first n : ℕ) (some : n ≡ 0 → ⊥) (few : n ≤ state_max) where
  pub beyond : length states < (first + n) * state_words → 7 ≡ states_refusal states ts first n
  unfolding states_refusal
  beyond h = rw (ne_eqb n 0 some, le-ltb state_max n few, lt-leb _ _ h)

  pub within : (first + n) * state_words ≤ length states → (words : List ℕ) → words ≡ rows_of state_words states first n
      → each_state ts n words ≡ states_refusal states ts first n
  unfolding states_refusal
  within h words is = rw (is, ne_eqb n 0 some, le-ltb state_max n few, le-leb _ _ h)

-- ---- the machines of whole tables
and_split : (a b : Bool) → (a && b) ≡ true → (a ≡ true) × (b ≡ true)
and_split true b e = (refl, e)
and_split false b e = cc

pub all_machines : (machines states ts : List ℕ) (rows : List (List ℕ)) → rows ≡ first_chunks 6 (length machines / 6) machines
    → whole_tables machines states ts ≡ true
    → machines_refusal (concat rows) states ts (length rows) ≡ machines_refusal machines states ts (length machines / machine_words)
unfolding whole_tables
all_machines machines states ts rows are whole =
    let form = eqb (length machines % machine_words) 0 in
    let one = and_split (form && eqb (length states % state_words) 0 && eqb (length ts % transition_words) 0) _ whole in
    let two = and_split (form && eqb (length states % state_words) 0) (eqb (length ts % transition_words) 0) one.0 in
    let three = and_split form (eqb (length states % state_words) 0) two.0 in
    let rest : length machines % 6 ≡ 0 = eqb-true (length machines % 6) 0 three.0 in
    let all : length machines ≡ length machines / 6 * 6 = omega arith in
    let words : concat rows ≡ machines = ap concat are ∙ words_of 6 (length machines / 6) machines ∙ ap (λ (n : ℕ). take n machines) (sym all) ∙ take-length machines in
    rw (words, ap length are ∙ length_of 6 (length machines / 6) machines)
