-- The tables that no refusal of 3 to 15 meets, and for each number where it is met first, in plain words of document 01.
-- Definitions; that they are what `tables_refusal` answers is proved in `Laws`.
pub mod Tests
pub mod Fields
use Rattle.std.specs.Prelude.{ℕ, ◌+◌, ◌*◌, ◌/◌, ◌%◌, ◌≤◌, ◌<◌, ◌≡◌, List, true, false, ◌⊎◌, length, get_or, Float}
use Rattle.std.specs.Float.{binary32, binary64}
use Rattle.std.specs.Float.Ieee.{of_bits, lt, le}
use Rattle.machine.specs.Constants.{state_end, state_signal, state_max, machine_max, event_num, machine_words, state_words, transition_words, max_padding_frac, max_blocking_frac, first_state, num_states, flags, timer, timeout, duration, limit, counter_a, counter_b, cancel, send_padding, block_outgoing, update_timer}
use Rattle.machine.specs.State.{rows_of, state_row, first_of, count_of, target_at, probability_at}
use Rattle.dists.specs.Dist.{f64_at, dist_at, validate}
use Rattle.samples.specs.Action.{action_of}
use Rattle.rows.specs.Row.{probability_word, sum_from}

-- ---- floats; a NaN is never below, at or above anything, so it passes
-- a machine's fraction: neither below 0 nor above 1
abbrev pub Fraction : Float → Type 0
Fraction x = (lt x (of_bits binary64 0) ≡ false) × (lt (of_bits binary64 0x3ff0_0000_0000_0000) x ≡ false)

-- a probability, and a row's sum: neither at or below 0 nor above 1
abbrev pub Probability : Float → Type 0
Probability p = (le p (of_bits binary32 0) ≡ false) × (lt (of_bits binary32 0x3f80_0000) p ≡ false)

-- ---- a transition
-- a state of the machine or a special one
abbrev pub Target : ℕ → ℕ → Type 0
Target n target = (target < n) ⊎ ((target ≡ state_end) ⊎ (target ≡ state_signal))

-- an earlier transition of the row that begins at `first` has the same target
pub record Seen (ts : List ℕ) (first i : ℕ) : Type 0 where
  pub earlier : ℕ
  pub within : first ≤ earlier
  pub before : earlier < i
  pub same : target_at ts earlier ≡ target_at ts i

pub record ValidTransition (ts : List ℕ) (n first i : ℕ) : Type 0 where
  pub word : probability_word ts i < 4294967296
  pub target : Target n (target_at ts i)
  pub unseen : Seen ts first i → ⊥
  pub probability : Probability (probability_at ts i)

-- ---- a row of transitions
pub record ValidRow (ts : List ℕ) (n first count : ℕ) : Type 0 where
  pub within : (first + count) * transition_words ≤ length ts
  pub transitions : (i : ℕ) → first ≤ i → i < first + count → ValidTransition ts n first i
  pub sum : Probability (sum_from ts first count (of_bits binary32 0))

-- a count of 0 is no row
abbrev pub ValidPair : List ℕ → ℕ → ℕ → ℕ → Type 0
ValidPair ts n first count = (count ≡ 0) ⊎ ValidRow ts n first count

-- ---- codes of the fields that are used: 2 and 3 have a timeout, 3 and 4 a duration, 2 to 4 flags and perhaps a limit
pub record KnownAction (row : List ℕ) : Type 0 where
  pub action : action_of row ≤ update_timer
  pub timer : action_of row ≡ cancel → get_or row timer 0 ≤ 2
  pub flags : send_padding ≤ action_of row → get_or row flags 0 ≤ 3
  pub limit : send_padding ≤ action_of row → get_or row limit 0 ≤ 2
  pub timeout : send_padding ≤ action_of row → action_of row ≤ block_outgoing →
      (0 < get_or row timeout 0) × (get_or row timeout 0 ≤ 2)
  pub duration : block_outgoing ≤ action_of row → (0 < get_or row duration 0) × (get_or row duration 0 ≤ 2)

-- the counter at word k: none, or operation, copy and kind
abbrev pub KnownCounter : List ℕ → ℕ → Type 0
KnownCounter row k = (get_or row k 0 ≡ 0) ⊎ ((get_or row k 0 ≤ 3) × ((get_or row (k + 1) 0 ≤ 1) × (get_or row (k + 2) 0 ≤ 2)))

pub record KnownCodes (row : List ℕ) : Type 0 where
  pub action : KnownAction row
  pub a : KnownCounter row counter_a
  pub b : KnownCounter row counter_b

-- ---- distributions that are used; one that is absent or drawn outside is valid
abbrev pub ValidDist : List ℕ → ℕ → Type 0
ValidDist row k = validate (dist_at row k) ≡ true

pub record ValidAction (row : List ℕ) : Type 0 where
  pub timeout : (action_of row ≡ send_padding) ⊎ (action_of row ≡ block_outgoing) → ValidDist row timeout
  pub duration : (action_of row ≡ block_outgoing) ⊎ (action_of row ≡ update_timer) → ValidDist row duration
  pub limit : (action_of row ≡ send_padding) ⊎ ((action_of row ≡ block_outgoing) ⊎ (action_of row ≡ update_timer)) →
      ValidDist row limit

abbrev pub ValidCounter : List ℕ → ℕ → Type 0
ValidCounter row k = (get_or row k 0 ≡ 0) ⊎ ValidDist row (k + 2)

pub record ValidDists (row : List ℕ) : Type 0 where
  pub action : ValidAction row
  pub a : ValidCounter row counter_a
  pub b : ValidCounter row counter_b

-- ---- a state, a machine, all tables
-- every event's pair
abbrev pub ValidEvents : List ℕ → ℕ → List ℕ → Type 0
ValidEvents ts n row = (event : ℕ) → event < event_num → ValidPair ts n (first_of row event) (count_of row event)

pub record ValidState (ts : List ℕ) (n : ℕ) (row : List ℕ) : Type 0 where
  pub events : ValidEvents ts n row
  pub codes : KnownCodes row
  pub dists : ValidDists row

-- as many states as a machine may have, within the state table
pub record ValidPlace (states : List ℕ) (first n : ℕ) : Type 0 where
  pub some : 0 < n
  pub most : n ≤ state_max
  pub within : (first + n) * state_words ≤ length states

-- the states of the machine with these six words
abbrev pub state_of : List ℕ → List ℕ → ℕ → List ℕ
state_of states row state = state_row (rows_of state_words states (get_or row first_state 0) (get_or row num_states 0)) state

pub record ValidMachine (states ts row : List ℕ) : Type 0 where
  pub padding : Fraction (f64_at row max_padding_frac)
  pub blocking : Fraction (f64_at row max_blocking_frac)
  pub place : ValidPlace states (get_or row first_state 0) (get_or row num_states 0)
  pub each : (state : ℕ) → state < get_or row num_states 0 →
      ValidState ts (get_or row num_states 0) (state_of states row state)

pub record Whole (machines states ts : List ℕ) : Type 0 where
  pub machine_rows_lem : length machines % machine_words ≡ 0
  pub state_rows_lem : length states % state_words ≡ 0
  pub transition_rows_lem : length ts % transition_words ≡ 0
  pub most : length machines / machine_words ≤ machine_max

pub record Valid (machines states ts : List ℕ) : Type 0 where
  pub whole : Whole machines states ts
  pub each : (i : ℕ) → i < length machines / machine_words →
      ValidMachine states ts (rows_of machine_words machines i 1)

-- ---- the first place at which a refusal is met: all before it is good
pub record FirstAt (Good Bad : ℕ → Type 0) (from to : ℕ) : Type 0 where
  pub place : ℕ
  pub low : from ≤ place
  pub high : place < to
  pub before : (j : ℕ) → from ≤ j → j < place → Good j
  pub here : Bad place

-- ---- what an answer r says: that all passes, or which test is met first; the tests before it pass
pub data TransitionAnswer (ts : List ℕ) (n first i r : ℕ) : Type 0 where
  transition-passes : r ≡ 0 → ValidTransition ts n first i → TransitionAnswer ts n first i r
  nine : r ≡ 9 → 4294967296 ≤ probability_word ts i → TransitionAnswer ts n first i r
  ten : r ≡ 10 → probability_word ts i < 4294967296 → (Target n (target_at ts i) → ⊥) →
      TransitionAnswer ts n first i r
  eleven : r ≡ 11 → probability_word ts i < 4294967296 → Target n (target_at ts i) → Seen ts first i →
      TransitionAnswer ts n first i r
  twelve : r ≡ 12 → probability_word ts i < 4294967296 → Target n (target_at ts i) → (Seen ts first i → ⊥) →
      (Probability (probability_at ts i) → ⊥) → TransitionAnswer ts n first i r

pub data PairAnswer (ts : List ℕ) (n first count r : ℕ) : Type 0 where
  pair-passes : r ≡ 0 → ValidPair ts n first count → PairAnswer ts n first count r
  eight : r ≡ 8 → 0 < count → length ts < (first + count) * transition_words → PairAnswer ts n first count r
  first-transition : 0 < r → (first + count) * transition_words ≤ length ts →
      FirstAt (ValidTransition ts n first) (λ i. TransitionAnswer ts n first i r) first (first + count) →
      PairAnswer ts n first count r
  thirteen : r ≡ 13 → 0 < count → (first + count) * transition_words ≤ length ts →
      ((i : ℕ) → first ≤ i → i < first + count → ValidTransition ts n first i) →
      (Probability (sum_from ts first count (of_bits binary32 0)) → ⊥) → PairAnswer ts n first count r

pub data StateAnswer (ts : List ℕ) (n : ℕ) (row : List ℕ) (r : ℕ) : Type 0 where
  state-passes : r ≡ 0 → ValidState ts n row → StateAnswer ts n row r
  first-event : 0 < r →
      FirstAt (λ event. ValidPair ts n (first_of row event) (count_of row event))
      (λ event. PairAnswer ts n (first_of row event) (count_of row event) r) 0 event_num → StateAnswer ts n row r
  fourteen : r ≡ 14 → ValidEvents ts n row → (KnownCodes row → ⊥) → StateAnswer ts n row r
  fifteen : r ≡ 15 → ValidEvents ts n row → KnownCodes row → (ValidDists row → ⊥) → StateAnswer ts n row r

pub data MachineAnswer (states ts row : List ℕ) (r : ℕ) : Type 0 where
  machine-passes : r ≡ 0 → ValidMachine states ts row → MachineAnswer states ts row r
  four : r ≡ 4 → (Fraction (f64_at row max_padding_frac) → ⊥) → MachineAnswer states ts row r
  five : r ≡ 5 → Fraction (f64_at row max_padding_frac) → (Fraction (f64_at row max_blocking_frac) → ⊥) →
      MachineAnswer states ts row r
  six : r ≡ 6 → Fraction (f64_at row max_padding_frac) → Fraction (f64_at row max_blocking_frac) →
      (get_or row num_states 0 ≡ 0) ⊎ (state_max < get_or row num_states 0) → MachineAnswer states ts row r
  seven : r ≡ 7 → Fraction (f64_at row max_padding_frac) → Fraction (f64_at row max_blocking_frac) →
      0 < get_or row num_states 0 → get_or row num_states 0 ≤ state_max →
      length states < (get_or row first_state 0 + get_or row num_states 0) * state_words → MachineAnswer states ts row r
  first-state : 0 < r → Fraction (f64_at row max_padding_frac) → Fraction (f64_at row max_blocking_frac) →
      ValidPlace states (get_or row first_state 0) (get_or row num_states 0) →
      FirstAt (λ state. ValidState ts (get_or row num_states 0) (state_of states row state))
      (λ state. StateAnswer ts (get_or row num_states 0) (state_of states row state) r) 0 (get_or row num_states 0) →
      MachineAnswer states ts row r

pub data TablesAnswer (machines states ts : List ℕ) (r : ℕ) : Type 0 where
  tables_pass : r ≡ 0 → Valid machines states ts → TablesAnswer machines states ts r
  three : r ≡ 3 → (Whole machines states ts → ⊥) → TablesAnswer machines states ts r
  first-machine : 0 < r → Whole machines states ts →
      FirstAt (λ i. ValidMachine states ts (rows_of machine_words machines i 1))
      (λ i. MachineAnswer states ts (rows_of machine_words machines i 1) r) 0 (length machines / machine_words) →
      TablesAnswer machines states ts r
