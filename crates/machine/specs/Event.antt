-- event.rs: the numbers of `Event`, in its order, and the kinds of `TriggerEvent`.
use Rattle.std.specs.Prelude.{ℕ, ◌+◌, cond, ltb}

-- ---- `Event`
abbrev pub normal_recv : ℕ
normal_recv = 0

abbrev pub padding_recv : ℕ
padding_recv = 1

abbrev pub tunnel_recv : ℕ
tunnel_recv = 2

abbrev pub normal_sent : ℕ
normal_sent = 3

abbrev pub padding_sent : ℕ
padding_sent = 4

abbrev pub tunnel_sent : ℕ
tunnel_sent = 5

abbrev pub blocking_begin : ℕ
blocking_begin = 6

abbrev pub blocking_end : ℕ
blocking_end = 7

abbrev pub limit_reached : ℕ
limit_reached = 8

abbrev pub counter_zero : ℕ
counter_zero = 9

abbrev pub timer_begin : ℕ
timer_begin = 10

abbrev pub timer_end : ℕ
timer_end = 11

abbrev pub signal : ℕ
signal = 12

-- ---- `TriggerEvent` lacks LimitReached and CounterZero: its first eight kinds are those of `Event`, then TimerBegin and TimerEnd
abbrev pub timer_begin_kind : ℕ
timer_begin_kind = 8

abbrev pub timer_end_kind : ℕ
timer_end_kind = 9

-- the `Event` of a kind
unfoldable pub event_of : ℕ → ℕ
event_of kind = cond (ltb kind 8) kind (kind + 2)
