-- A search through rows, as the definitions say it: by the number of rows. Assumes nothing.
use Rattle.std.proofs.Common.{◌≡◌, ℕ, suc, ◌+◌, ◌*◌, ◌/◌, ◌<◌, List, [], ◌∷◌, Bool, ◌||◌, length, get_or, refl, sym, ap, ◌∙◌, arith}
use native.Mathlib.Nat.{add-zero, zero-add}
use Rattle.std.proofs.Math.Bool.{or_assoc, or-false}
use Rattle.std.specs.List.{list_any}
use Rattle.std.specs.Simd.{first_chunks}
use Rattle.machine.specs.State.{state_row}
use Rattle.outside.specs.Outside.{state_outside, states_outside, own_rows, machines_outside, draws_outside}
use Rattle.rows.proofs.Chunks.{row_at, word_at, length_of}

-- g n: whether f holds of one of the first n
through : (g f : ℕ → Bool) → ((n : ℕ) → g (suc n) ≡ (g n || f n)) → (test : List ℕ → Bool) (rows : List (List ℕ)) (j : ℕ)
    → ((i : ℕ) → i < length rows → test (get_or rows i []) ≡ f (j + i)) → (g j || list_any test rows) ≡ g (j + length rows)
through g f more test [] j is = or-false (g j) ∙ ap g (sym (add-zero j))
through g f more test (x ∷ rows) j is =
    let e : suc j + length rows ≡ j + suc (length rows) = omega arith in
    let here : test x ≡ f j = is 0 (omega arith) ∙ ap f (add-zero j) in
    rw here (sym (or_assoc (g j) (f j) (list_any test rows)) ∙ rw (← more j)
    (through g f more test rows (suc j) (λ i h. is (suc i) (omega arith) ∙ ap f (let k : j + suc i ≡ suc j + i = omega arith in k)) ∙ ap g e))

-- ---- the states of a machine
more-states : (rows : List ℕ) (n : ℕ) → states_outside rows (suc n) ≡ (states_outside rows n || state_outside (state_row rows n))
unfolding states_outside
more-states rows n = refl

pub one_machine : (machine states : List ℕ) (rows : List (List ℕ)) → rows ≡ first_chunks 58 (length (own_rows machine states 0) / 58) (own_rows machine states 0)
    → list_any state_outside rows ≡ machines_outside machine states 1
unfolding machines_outside states_outside
one_machine machine states rows are =
    let own = own_rows machine states 0 in
    let all : length rows ≡ length own / 58 = ap length are ∙ length_of 58 (length own / 58) own in
    through (states_outside own) (λ n. state_outside (state_row own n)) (more-states own) state_outside rows 0
    (λ i h. ap (λ (l : List (List ℕ)). state_outside (get_or l i [])) are
    ∙ ap state_outside (row_at 58 (length own / 58) own i (omega (arith, all))) ∙ ap (λ (k : ℕ). state_outside (state_row own k)) (sym (zero-add i)))
    ∙ rw (zero-add (length rows), all)

-- ---- the machines
more-machines : (machines states : List ℕ) (n : ℕ) → machines_outside machines states (suc n)
    ≡ (machines_outside machines states n || states_outside (own_rows machines states n) (length (own_rows machines states n) / 58))
unfolding machines_outside
more-machines machines states n = refl

pub all_machines : (machines states : List ℕ) (rows : List (List ℕ)) → rows ≡ first_chunks 6 (length machines / 6) machines
    → list_any (λ machine. machines_outside machine states 1) rows ≡ draws_outside machines states
unfolding machines_outside draws_outside
all_machines machines states rows are =
    let all : length rows ≡ length machines / 6 = ap length are ∙ length_of 6 (length machines / 6) machines in
    through (machines_outside machines states) _ (more-machines machines states) (λ machine. machines_outside machine states 1) rows 0
    (λ i h. ap (λ (l : List ℕ). states_outside l (length l / 58)) (own i (omega (arith, all))) ∙ ap (λ (k : ℕ). states_outside (own_rows machines states k) (length (own_rows machines states k) / 58)) (sym (zero-add i)))
    ∙ rw (zero-add (length rows), all)
  where
    word : (i j : ℕ) → i < length machines / 6 → j < 6 → get_or (get_or rows i []) (0 * 6 + j) 0 ≡ get_or machines (i * 6 + j) 0
    word i j h l =
        let e : 0 * 6 + j ≡ j = omega arith in
        ap (λ (n : ℕ). get_or (get_or rows i []) n 0) e ∙ ap (λ (r : List (List ℕ)). get_or (get_or r i []) j 0) are
        ∙ word_at 6 (length machines / 6) machines i j h l

    own : (i : ℕ) → i < length machines / 6 → own_rows (get_or rows i []) states 0 ≡ own_rows machines states i
    own i h = rw (word i 4 h (omega arith), word i 5 h (omega arith))
