-- Refusal 24 (document 02, job 4): a distribution of kind 2, drawn outside, in a used field of a state of the tables' machines. The
-- used fields are those of refusal 14.
pub mod Laws
use Rattle.std.specs.Prelude.{ℕ, zero, suc, ◌+◌, ◌*◌, ◌/◌, List, Bool, false, not, ◌&&◌, ◌||◌, length, get_or, eqb}
use Rattle.machine.specs.Constants.{timeout, duration, limit, counter_a, counter_b, first_state, num_states, machine_words, state_words}
use Rattle.machine.specs.State.{rows_of, state_row}
use Rattle.samples.specs.Action.{has_timeout, has_duration, may_limit}

-- the distribution that begins at word k
abbrev pub drawn_outside : List ℕ → ℕ → Bool
drawn_outside row k = eqb (get_or row k 0) 2

-- the counter that begins at word k, even under copy
abbrev pub counter_outside : List ℕ → ℕ → Bool
counter_outside row k = not (eqb (get_or row k 0) 0) && drawn_outside row (k + 2)

unfoldable pub state_outside : List ℕ → Bool
state_outside row =
    (has_timeout row && drawn_outside row timeout)
    || (has_duration row && drawn_outside row duration)
    || (may_limit row && drawn_outside row limit)
    || counter_outside row counter_a
    || counter_outside row counter_b

-- one of the first n states
unfoldable pub states_outside : List ℕ → ℕ → Bool
states_outside rows zero = false
states_outside rows (suc n) = states_outside rows n || state_outside (state_row rows n)

-- a machine's own part of the state table
abbrev pub own_rows : List ℕ → List ℕ → ℕ → List ℕ
own_rows machines states i =
    rows_of state_words states (get_or machines (i * machine_words + first_state) 0) (get_or machines (i * machine_words + num_states) 0)

-- one of the first n machines
unfoldable pub machines_outside : List ℕ → List ℕ → ℕ → Bool
machines_outside machines states zero = false
machines_outside machines states (suc n) =
    machines_outside machines states n
    || states_outside (own_rows machines states n) (length (own_rows machines states n) / state_words)

unfoldable pub draws_outside : List ℕ → List ℕ → Bool
draws_outside machines states = machines_outside machines states (length machines / machine_words)
