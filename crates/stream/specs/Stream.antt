-- The input of the printed run as a list of words: where each part stands, each call, and refusal 21. Places and
-- counts are natural numbers, so no count is too large.
use Rattle.std.specs.Prelude.{ℕ, zero, suc, ◌+◌, ◌*◌, ◌/◌, ◌%◌, Bool, true, false, cond, List, [], ◌∷◌, ◌++◌, eqb, ltb, length, take, drop, get_or}
use Rattle.machine.specs.Constants.{machine_words, state_words, transition_words}
use Rattle.text.specs.Words.{words_to}
use Rattle.stream.specs.declared.Layout.{Layout}
use Rattle.stream.specs.declared.Call.{Call}

-- ---- the header: the words 0 to 8

-- bits of the framework's two fractions, and the opening's time
abbrev pub padding_frac : List ℕ → ℕ
padding_frac ws = get_or ws 0 0

abbrev pub blocking_frac : List ℕ → ℕ
blocking_frac ws = get_or ws 1 0

abbrev pub opening_time : List ℕ → ℕ
opening_time ws = get_or ws 2 0

-- how many machine, state and transition rows, chance and value draws, and calls
abbrev pub machine_rows : List ℕ → ℕ
machine_rows ws = get_or ws 3 0

abbrev pub state_rows : List ℕ → ℕ
state_rows ws = get_or ws 4 0

abbrev pub transition_rows : List ℕ → ℕ
transition_rows ws = get_or ws 5 0

abbrev pub chance_draws : List ℕ → ℕ
chance_draws ws = get_or ws 6 0

abbrev pub value_draws : List ℕ → ℕ
value_draws ws = get_or ws 7 0

abbrev pub call_count : List ℕ → ℕ
call_count ws = get_or ws 8 0

-- ---- the parts behind the header, in their order

-- where each part starts: three tables, two tapes of a word a draw, then the calls
abbrev pub machines_at : ℕ
machines_at = 9

unfoldable pub states_at : List ℕ → ℕ
states_at ws = machines_at + machine_words * machine_rows ws

unfoldable pub transitions_at : List ℕ → ℕ
transitions_at ws = states_at ws + state_words * state_rows ws

unfoldable pub chances_at : List ℕ → ℕ
chances_at ws = transitions_at ws + transition_words * transition_rows ws

unfoldable pub values_at : List ℕ → ℕ
values_at ws = chances_at ws + chance_draws ws

unfoldable pub calls_at : List ℕ → ℕ
calls_at ws = values_at ws + value_draws ws

-- all these places
abbrev pub layout_of : List ℕ → Layout
layout_of ws = record {
  states = states_at ws;
  transitions = transitions_at ws;
  chances = chances_at ws;
  values = values_at ws;
  calls = calls_at ws;
}

-- n words from a place on
abbrev pub part : ℕ → ℕ → List ℕ → List ℕ
part at n ws = take n (drop at ws)

unfoldable pub machine_table : List ℕ → List ℕ
machine_table ws = part machines_at (machine_words * machine_rows ws) ws

unfoldable pub state_table : List ℕ → List ℕ
state_table ws = part (states_at ws) (state_words * state_rows ws) ws

unfoldable pub transition_table : List ℕ → List ℕ
transition_table ws = part (transitions_at ws) (transition_words * transition_rows ws) ws

unfoldable pub chance_words : List ℕ → List ℕ
chance_words ws = part (chances_at ws) (chance_draws ws) ws

unfoldable pub value_words : List ℕ → List ℕ
value_words ws = part (values_at ws) (value_draws ws) ws

-- ---- the calls: time, event count, and two words for each event

-- where the call behind the one at a place starts
abbrev pub next_call : List ℕ → ℕ → ℕ
next_call ws at = at + 2 + 2 * get_or ws (at + 1) 0

-- where call i starts, counted from 0
unfoldable pub call_at : List ℕ → ℕ → ℕ
call_at ws zero = calls_at ws
call_at ws (suc i) = next_call ws (call_at ws i)

-- the call at a place: its time, where its events start, and where the next call does
abbrev pub call_of : List ℕ → ℕ → Call
call_of ws at = record { time = get_or ws at 0; events = at + 2; next = next_call ws at }

-- its event words
unfoldable pub events_of : List ℕ → ℕ → List ℕ
events_of ws at = part (at + 2) (2 * get_or ws (at + 1) 0) ws

-- ---- refusal 21

-- each word is below 2^32
unfoldable pub narrow : List ℕ → Bool
narrow [] = true
narrow (w ∷ ws) = cond (ltb w 4294967296) (narrow ws) false

-- the end of the last call
unfoldable pub end_at : List ℕ → ℕ
end_at ws = call_at ws (call_count ws)

-- 21 where words are missing or left over, that is where they do not end where the last call does, or where a chance
-- word is 2^32 or more; else 0
unfoldable pub check_of : List ℕ → ℕ
check_of ws = cond (eqb (end_at ws) (length ws)) (cond (narrow (chance_words ws)) 0 21) 21

-- 21 where so many bytes are more than 8,192 words or cut the last word, else 0
unfoldable pub size_refusal : ℕ → ℕ
size_refusal n = cond (ltb 65536 n) 21 (cond (eqb (n % 8) 0) 0 21)

-- the words of an input's bytes
unfoldable pub input_words : List ℕ → List ℕ
input_words bs = words_to bs (length bs / 8)

-- what the whole input, as bytes, is refused as, or 0
unfoldable pub input_refusal : List ℕ → ℕ
input_refusal bs = cond (eqb (size_refusal (length bs)) 0) (check_of (input_words bs)) 21

-- a buffer of words that takes up the input: untouched where the size is refused
unfoldable pub loaded : List ℕ → List ℕ → List ℕ
loaded bs ws = cond (eqb (size_refusal (length bs)) 0) (input_words bs ++ drop (length bs / 8) ws) ws
