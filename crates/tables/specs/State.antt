-- state.rs, `State::validate`, with the tests that the tables' words ask beside the Rust's: refusals 8 to 15.
-- `n` is the number of the machine's states, `row` a state's words, `ts` the transition table.
use Rattle.std.specs.Prelude.{ℕ, ◌+◌, List, Bool, true, false, cond, not, ◌||◌, get_or, ltb, eqb}
use Rattle.machine.specs.Constants.{event_num, flags, timer, timeout, duration, limit, counter_a, counter_b, cancel, send_padding, block_outgoing, update_timer}
use Rattle.machine.specs.State.{first_of, count_of}
use Rattle.dists.specs.Dist.{dist_at, validate}
use Rattle.samples.specs.Action.{action_of}
use Rattle.rows.specs.First.{or_else, first_refusal}
use Rattle.rows.specs.Row.{pair_refusal}

-- ---- codes: an unknown one in a used field, or a distribution that the action needs and that is absent
-- a distribution's kind: 0 absent, 1 Uniform, 2 drawn outside
abbrev pub kind_unknown : ℕ → Bool
kind_unknown kind = ltb 2 kind

unfoldable pub needed_unknown : ℕ → Bool
needed_unknown kind = eqb kind 0 || kind_unknown kind

-- what every action but Cancel uses: flags (bypass 1 and replace 2) and a limit, which may be absent
unfoldable pub common_unknown : List ℕ → Bool
common_unknown row = ltb 3 (get_or row flags 0) || kind_unknown (get_or row limit 0)

-- Cancel uses its timer alone
unfoldable pub action_unknown : List ℕ → Bool
action_unknown row =
    cond (eqb (action_of row) 0) false
    (cond (eqb (action_of row) cancel) (ltb 2 (get_or row timer 0))
    (cond (eqb (action_of row) send_padding)
    (common_unknown row || needed_unknown (get_or row timeout 0))
    (cond (eqb (action_of row) block_outgoing)
    (common_unknown row || needed_unknown (get_or row timeout 0) || needed_unknown (get_or row duration 0))
    (cond (eqb (action_of row) update_timer)
    (common_unknown row || needed_unknown (get_or row duration 0))
    true))))

-- the counter at word k: operation, copy, and the distribution's kind, even under copy
unfoldable pub counter_unknown : List ℕ → ℕ → Bool
counter_unknown row k =
    cond (eqb (get_or row k 0) 0) false
    (ltb 3 (get_or row k 0) || ltb 1 (get_or row (k + 1) 0) || kind_unknown (get_or row (k + 2) 0))

unfoldable pub codes_unknown : List ℕ → Bool
codes_unknown row = action_unknown row || counter_unknown row counter_a || counter_unknown row counter_b

-- ---- distributions
unfoldable pub invalid : List ℕ → ℕ → Bool
invalid row k = not (validate (dist_at row k))

-- not Action::validate
unfoldable pub action_invalid : List ℕ → Bool
action_invalid row =
    cond (eqb (action_of row) send_padding) (invalid row timeout || invalid row limit)
    (cond (eqb (action_of row) block_outgoing) (invalid row timeout || invalid row duration || invalid row limit)
    (cond (eqb (action_of row) update_timer) (invalid row duration || invalid row limit) false))

-- not Counter::validate, of the counter at word k
unfoldable pub counter_invalid : List ℕ → ℕ → Bool
counter_invalid row k = cond (eqb (get_or row k 0) 0) false (invalid row (k + 2))

unfoldable pub dists_invalid : List ℕ → Bool
dists_invalid row = action_invalid row || counter_invalid row counter_a || counter_invalid row counter_b

-- ---- a state
-- Refusals 8 to 13, event by event.
unfoldable pub events_refusal : List ℕ → ℕ → List ℕ → ℕ
events_refusal ts n row =
    first_refusal (λ event. pair_refusal ts n (first_of row event) (count_of row event)) event_num 0

-- Refusals 8 to 15: the events; then 14 over action, counter A and counter B; then 15 over the same.
unfoldable pub state_refusal : List ℕ → ℕ → List ℕ → ℕ
state_refusal ts n row =
    or_else (events_refusal ts n row)
    (cond (codes_unknown row) 14 (cond (dists_invalid row) 15 0))
