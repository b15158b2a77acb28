-- framework.rs: whether the limits let a state's action be scheduled (below_action_limits, below_limit_blocking, below_limit_padding).
use Rattle.std.specs.Prelude.{ℕ, ◌-◌, ◌/◌, ◌%◌, List, Bool, true, false, cond, not, ◌&&◌, get_or, ltb, eqb, Float}
use Rattle.std.specs.Float.{binary64}
use Rattle.std.specs.Float.Ieee.{of_bits, lt}
use Rattle.numbers.specs.Finite.{zero_f}
use Rattle.numbers.specs.Fraction.{reached}
use Rattle.numbers.specs.Saturating.{saturating_add}
use Rattle.machine.specs.Constants.{flags, send_padding, block_outgoing, update_timer}
use Rattle.samples.specs.Action.{action_of}
use Rattle.steps.specs.declared.MachineRuntime.{MachineRuntime}
use Rattle.steps.specs.declared.Context.{Context}

-- the flags of a state row: bypass 1, replace 2
abbrev pub flags_of : List ℕ → ℕ
flags_of row = get_or row flags 0

abbrev pub replace_of : List ℕ → Bool
replace_of row = eqb (flags_of row / 2 % 2) 1

-- the state limit is above 0
abbrev pub limit_left : MachineRuntime → Bool
limit_left r = ltb 0 r.state_limit

-- the fractions of the machine's row
abbrev pub machine_padding_frac : Context → Float
machine_padding_frac c = of_bits binary64 c.machine_padding_bits

abbrev pub machine_blocking_frac : Context → Float
machine_blocking_frac c = of_bits binary64 c.machine_blocking_bits

-- ---- padding
-- One fraction, of p padding beside n normal packets. Above 0 it is a limit: with a total of 0 it allows whatever follows, and
-- reaching it stops. Totals saturate.
unfoldable pub below_fraction : Float → ℕ → ℕ → Bool → Bool
below_fraction f p n rest =
    cond (lt zero_f f)
    (cond (eqb (saturating_add n p) 0) true
    (cond (reached p (saturating_add n p) f) false rest))
    rest

-- below_limit_padding: the machine's allowance first, then its fraction, the framework's, and the state limit
unfoldable pub below_limit_padding : Context → MachineRuntime → Bool
below_limit_padding c r =
    cond (ltb r.counts.padding_sent c.allowed_padding_packets) (limit_left r)
    (below_fraction (machine_padding_frac c) r.counts.padding_sent r.counts.normal_sent
    (below_fraction c.max_padding_frac c.padding_sent_packets c.normal_sent_packets (limit_left r)))

-- ---- blocking
-- of the word `blocking_active`
abbrev pub blocking_on : ℕ → Bool
blocking_on active = not (eqb active 0)

-- blocked time takes in the ongoing part
abbrev pub with_ongoing : Context → ℕ → ℕ
with_ongoing c d = cond (blocking_on c.blocking_active) (saturating_add d (c.current_time - c.blocking_started)) d

-- a fraction above 0 is reached by blocked time over time
abbrev pub blocking_reached : Float → ℕ → ℕ → Bool
blocking_reached f blocked since = cond (lt zero_f f) (reached blocked since f) false

-- the machine's fraction of the time since its start, and the framework's
abbrev pub own_reached : Context → MachineRuntime → Bool
own_reached c r =
    blocking_reached (machine_blocking_frac c) (with_ongoing c r.counts.blocking_duration) (c.current_time - r.machine_start)

abbrev pub all_reached : Context → Bool
all_reached c =
    blocking_reached c.max_blocking_frac (with_ongoing c c.blocking_duration) (c.current_time - c.framework_start)

-- below_limit_blocking: replacing ongoing blocking and the machine's allowance come first, then both fractions, then the state limit
unfoldable pub below_limit_blocking : Context → MachineRuntime → Bool → Bool
below_limit_blocking c r replace =
    cond (replace && blocking_on c.blocking_active) (limit_left r)
    (cond (ltb (with_ongoing c r.counts.blocking_duration) r.allowed_blocked_microsec) (limit_left r)
    (cond (own_reached c r) false (cond (all_reached c) false (limit_left r))))

-- ---- below_action_limits, of the row of the machine's state: a state without an action sets none, and Cancel always passes
unfoldable pub below_action_limits : Context → MachineRuntime → List ℕ → Bool
below_action_limits c r row =
    cond (eqb (action_of row) 0) false
    (cond (eqb (action_of row) block_outgoing) (below_limit_blocking c r (replace_of row))
    (cond (eqb (action_of row) send_padding) (below_limit_padding c r)
    (cond (eqb (action_of row) update_timer) (limit_left r) true)))
