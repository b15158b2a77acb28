-- state.rs, `State::validate`, of a row of transitions, with the tests that the tables' words ask beside the Rust's: refusals 8 to 13.
-- `n` is the number of the machine's states, `ts` the transition table.
use Rattle.std.specs.Prelude.{ℕ, zero, suc, ◌+◌, ◌-◌, ◌*◌, List, Bool, false, cond, ◌||◌, length, get_or, ltb, leb, eqb, Float, Result, Ok, Err}
use Rattle.std.specs.Float.{binary32}
use Rattle.std.specs.Float.Ieee.{of_bits, add, lt, le}
use Rattle.refusal.specs.declared.Refusal.{Refusal}
use Rattle.refusal.specs.Refusal.{number}
use Rattle.machine.specs.Constants.{state_end, state_signal, transition_words}
use Rattle.machine.specs.State.{target_at, probability_at}
use Rattle.rows.specs.First.{or_else, first_refusal}

-- ---- a transition
-- the word whose low 32 bits are the probability
abbrev pub probability_word : List ℕ → ℕ → ℕ
probability_word ts i = get_or ts (i * transition_words + 1) 0

-- a state of the machine, or a special one
unfoldable pub is_target : ℕ → ℕ → Bool
is_target n target = ltb target n || eqb target state_end || eqb target state_signal

-- at or below 0, or above 1; a NaN is neither
unfoldable pub improbable : Float → Bool
improbable p = le p (of_bits binary32 0) || lt (of_bits binary32 0x3f80_0000) p

-- Refusals 9 to 12 of transition i; `seen`: its target stood in its row before.
unfoldable pub transition_refusal : List ℕ → ℕ → ℕ → Bool → ℕ
transition_refusal ts n i seen =
    cond (leb 4294967296 (probability_word ts i)) 9
    (cond (is_target n (target_at ts i))
    (cond seen 11 (cond (improbable (probability_at ts i)) 12 0))
    10)

-- ---- a row of transitions
-- whether one of k transitions from row j on has this target
unfoldable pub seen_in : List ℕ → ℕ → ℕ → ℕ → Bool
seen_in ts target zero j = false
seen_in ts target (suc k) j = eqb (target_at ts j) target || seen_in ts target k (j + 1)

-- whether transition i has the target of an earlier one, of a row that begins at `first`
abbrev pub seen_before : List ℕ → ℕ → ℕ → Bool
seen_before ts first i = seen_in ts (target_at ts i) (i - first) first

-- the f32 sum of k probabilities from row i on, added in order
unfoldable pub sum_from : List ℕ → ℕ → ℕ → Float → Float
sum_from ts i zero sum = sum
sum_from ts i (suc k) sum = sum_from ts (i + 1) k (add binary32 sum (probability_at ts i))

-- Refusal 13.
unfoldable pub sum_refusal : Float → ℕ
sum_refusal sum = cond (improbable sum) 13 0

-- The same of a sum that was reached, or the refusal of a transition before it.
abbrev pub refusal_of_sum : Result Float Refusal → ℕ
refusal_of_sum (Ok sum) = sum_refusal sum
refusal_of_sum (Err r) = number r

-- Refusals 9 to 13 of a row within the table: transition by transition, then the sum.
unfoldable pub row_refusal : List ℕ → ℕ → ℕ → ℕ → ℕ
row_refusal ts n first count =
    or_else (first_refusal (λ i. transition_refusal ts n i (seen_before ts first i)) count first)
    (sum_refusal (sum_from ts first count (of_bits binary32 0)))

-- Refusals 8 to 13 of the pair (first, count); with count 0 there is no row, whatever `first` says.
unfoldable pub pair_refusal : List ℕ → ℕ → ℕ → ℕ → ℕ
pair_refusal ts n first count =
    cond (eqb count 0) 0
    (cond (leb ((first + count) * transition_words) (length ts)) (row_refusal ts n first count) 8)
