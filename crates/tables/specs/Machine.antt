-- machine.rs, `Machine::validate`, with the tests that the tables' words ask beside the Rust's: refusals 3 to 15.
use Rattle.std.specs.Prelude.{ℕ, ◌+◌, ◌*◌, ◌/◌, ◌%◌, List, Bool, cond, ◌&&◌, ◌||◌, length, get_or, ltb, leb, eqb, Float}
use Rattle.std.specs.Float.{binary64}
use Rattle.std.specs.Float.Ieee.{of_bits, lt}
use Rattle.machine.specs.Constants.{state_max, machine_max, machine_words, state_words, transition_words, max_padding_frac, max_blocking_frac, first_state, num_states}
use Rattle.machine.specs.State.{rows_of, state_row}
use Rattle.dists.specs.Dist.{f64_at}
use Rattle.rows.specs.First.{first_refusal}
use Rattle.tables.specs.State.{state_refusal}

-- below 0 or above 1; a NaN is neither
unfoldable pub beyond_fraction : Float → Bool
beyond_fraction x = lt x (of_bits binary64 0) || lt (of_bits binary64 0x3ff0_0000_0000_0000) x

-- Refusals 8 to 15 of n states, state by state; `rows` is their part of the state table.
unfoldable pub each_state : List ℕ → ℕ → List ℕ → ℕ
each_state ts n rows = first_refusal (λ state. state_refusal ts n (state_row rows state)) n 0

-- Refusals 6 to 15 of n states from row `first` on: their number, their place, then each.
unfoldable pub states_refusal : List ℕ → List ℕ → ℕ → ℕ → ℕ
states_refusal states ts first n =
    cond (eqb n 0 || ltb state_max n) 6
    (cond (leb ((first + n) * state_words) (length states))
    (each_state ts n (rows_of state_words states first n))
    7)

-- Refusals 4 to 15 of the machine with these six words.
unfoldable pub machine_refusal : List ℕ → List ℕ → List ℕ → ℕ
machine_refusal states ts row =
    cond (beyond_fraction (f64_at row max_padding_frac)) 4
    (cond (beyond_fraction (f64_at row max_blocking_frac)) 5
    (states_refusal states ts (get_or row first_state 0) (get_or row num_states 0)))

-- Refusals 4 to 15 of the first n machines, machine by machine.
abbrev pub machines_refusal : List ℕ → List ℕ → List ℕ → ℕ → ℕ
machines_refusal machines states ts n = first_refusal (λ i. machine_refusal states ts (rows_of machine_words machines i 1)) n 0

-- each table is whole rows, of at most 16 machines
unfoldable pub whole_tables : List ℕ → List ℕ → List ℕ → Bool
whole_tables machines states ts =
    eqb (length machines % machine_words) 0 && eqb (length states % state_words) 0
    && eqb (length ts % transition_words) 0 && leb (length machines / machine_words) machine_max

-- Refusals 3 to 15 of the machine, state and transition tables: the tables' form, then machine by machine.
unfoldable pub tables_refusal : List ℕ → List ℕ → List ℕ → ℕ
tables_refusal machines states ts =
    cond (whole_tables machines states ts)
    (machines_refusal machines states ts (length machines / machine_words))
    3
