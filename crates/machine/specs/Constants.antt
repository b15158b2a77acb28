-- constants.rs, and the layout of the lent tables (document 01, "What the sender lends").
use Rattle.std.specs.Prelude.{ℕ}

abbrev pub state_end : ℕ
state_end = 4294967295

abbrev pub state_signal : ℕ
state_signal = 4294967294

-- the limit of a state whose action has none: the largest u64
abbrev pub state_limit_max : ℕ
state_limit_max = 18446744073709551615

abbrev pub state_max : ℕ
state_max = 100000

abbrev pub event_num : ℕ
event_num = 13

-- a day in microseconds
abbrev pub max_sampled_timeout : ℕ
max_sampled_timeout = 86400000000

abbrev pub max_sampled_duration : ℕ
max_sampled_duration = 86400000000

abbrev pub machine_max : ℕ
machine_max = 16

-- ---- words of a row of each table
abbrev pub machine_words : ℕ
machine_words = 6

abbrev pub state_words : ℕ
state_words = 58

abbrev pub transition_words : ℕ
transition_words = 2

-- ---- words of an action's row in the output
abbrev pub row_words : ℕ
row_words = 6

-- the words of an action's row that are looked at
abbrev pub row_machine : ℕ
row_machine = 0

abbrev pub row_kind : ℕ
row_kind = 1

abbrev pub row_timeout : ℕ
row_timeout = 4

-- ---- where the fields of a machine row begin
abbrev pub allowed_padding_packets : ℕ
allowed_padding_packets = 0

abbrev pub max_padding_frac : ℕ
max_padding_frac = 1

abbrev pub allowed_blocked_microsec : ℕ
allowed_blocked_microsec = 2

abbrev pub max_blocking_frac : ℕ
max_blocking_frac = 3

abbrev pub first_state : ℕ
first_state = 4

abbrev pub num_states : ℕ
num_states = 5

-- ---- where the fields of a state row begin
abbrev pub action : ℕ
action = 0

abbrev pub flags : ℕ
flags = 1

abbrev pub timer : ℕ
timer = 2

abbrev pub timeout : ℕ
timeout = 3

abbrev pub duration : ℕ
duration = 8

abbrev pub limit : ℕ
limit = 13

abbrev pub counter_a : ℕ
counter_a = 18

abbrev pub counter_b : ℕ
counter_b = 25

abbrev pub events : ℕ
events = 32

-- counters A and B
abbrev pub counter_num : ℕ
counter_num = 2

-- ---- codes of an action
abbrev pub cancel : ℕ
cancel = 1

abbrev pub send_padding : ℕ
send_padding = 2

abbrev pub block_outgoing : ℕ
block_outgoing = 3

abbrev pub update_timer : ℕ
update_timer = 4

-- ---- codes of a counter's operation
abbrev pub increment : ℕ
increment = 1

abbrev pub decrement : ℕ
decrement = 2

abbrev pub set_to : ℕ
set_to = 3
