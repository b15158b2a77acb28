-- state.rs: rows of the lent tables, and the choice of a next state.
use Rattle.std.specs.Prelude.{ℕ, zero, suc, ◌+◌, ◌*◌, ◌%◌, List, cond, length, get_or, take, drop, leb, Float, Option, Some, None}
use Rattle.std.specs.Float.{binary32}
use Rattle.std.specs.Float.Ieee.{of_bits, add, lt}
use Rattle.machine.specs.Constants.{state_words, transition_words, events}

-- ---- rows
-- n rows of w words from row `first` on; what lies beyond the table is missing
unfoldable pub rows_of : ℕ → List ℕ → ℕ → ℕ → List ℕ
rows_of w table first n = take (n * w) (drop (first * w) table)

-- the row of a state, of a machine's own part of the state table
abbrev pub state_row : List ℕ → ℕ → List ℕ
state_row rows state = rows_of state_words rows state 1

-- the pair of an event: first transition row, count; count 0 means that the event has no row
abbrev pub first_of : List ℕ → ℕ → ℕ
first_of row event = get_or row (events + event * 2) 0

abbrev pub count_of : List ℕ → ℕ → ℕ
count_of row event = get_or row (events + event * 2 + 1) 0

-- ---- State::sample_state, given the draw
-- a transition's target, and its probability (the f32 of a word's low 32 bits; the table checks leave no larger word)
abbrev pub target_at : List ℕ → ℕ → ℕ
target_at ts i = get_or ts (i * transition_words) 0

abbrev pub probability_at : List ℕ → ℕ → Float
probability_at ts i = of_bits binary32 (get_or ts (i * transition_words + 1) 0 % 4294967296)

-- The first target, of n transitions from row i on, at which the running f32 sum exceeds the draw.
unfoldable pub walk : List ℕ → ℕ → ℕ → Float → Float → Option ℕ
walk ts i zero sum draw = None
walk ts i (suc n) sum draw =
    let next = add binary32 sum (probability_at ts i) in
    cond (lt draw next) (Some (target_at ts i)) (walk ts (i + 1) n next draw)

-- A row beyond the transition table chooses nothing; the table checks leave none.
unfoldable pub sample_state : List ℕ → ℕ → ℕ → Float → Option ℕ
sample_state ts first count draw =
    cond (leb ((first + count) * transition_words) (length ts)) (walk ts first count (of_bits binary32 0) draw) None
