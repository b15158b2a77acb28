-- framework.rs: an event over all machines (process_event), and the signals after the last event. A run is a framework, the
-- pending actions and what the call shares; a refusal inside it stops it.
use Rattle.std.specs.Prelude.{Result, Ok, Err, Option}
use Rattle.steps.specs.declared.Step.{Step}
use Rattle.std.specs.Prelude.{ℕ, zero, suc, ◌+◌, ◌-◌, ◌*◌, min, List, Bool, cond, not, ◌&&◌, ◌||◌, get_or, set, ltb, leb, eqb}
use Rattle.refusal.specs.Refusal.{number}
use Rattle.machine.specs.Source.{Source}
use Rattle.machine.specs.declared.source.Place.{Place}
use Rattle.numbers.specs.Saturating.{saturating_add}
use Rattle.machine.specs.Constants.{machine_max, machine_words, state_words, allowed_padding_packets, max_padding_frac, max_blocking_frac, first_state, num_states, state_end}
use Rattle.machine.specs.Event.{event_of, normal_sent, padding_sent, blocking_begin, blocking_end, signal, timer_begin_kind, timer_end_kind}
use Rattle.machine.specs.State.{rows_of}
pub use Rattle.machine.specs.Tables.{Tables}
use Rattle.steps.specs.Limits.{blocking_on}
use Rattle.steps.specs.Transition.{Env, env, no_action, with_signal, transition, decrement_limit}
use Rattle.steps.specs.declared.MachineRuntime.{MachineRuntime}
use Rattle.steps.specs.declared.Counts.{Counts}
use Rattle.steps.specs.declared.Counters.{Counters}
use Rattle.steps.specs.declared.Fixed.{Fixed}
use Rattle.steps.specs.declared.Totals.{Totals}
use Rattle.steps.specs.declared.Framework.{Framework}
use Rattle.steps.specs.declared.Run.{Run}
use Rattle.steps.specs.declared.Context.{Context}
use Rattle.steps.specs.declared.Shared.{Shared}
use Rattle.steps.specs.declared.TriggerAction.{TriggerAction}

-- A run of a call so far, or the number by which it stopped.
pub data Outcome : Type 0 where
  stop : ℕ → Outcome
  go : Run → Outcome

abbrev pub and_then : Outcome → (Run → Outcome) → Outcome
and_then (stop n) f = stop n
and_then (go x) f = f x

-- n turns from turn i on, in order
unfoldable pub each : (ℕ → Run → Outcome) → ℕ → ℕ → Run → Outcome
each f zero i x = go x
each f (suc n) i x = and_then (f i x) (each f n (i + 1))

-- ---- one machine of the run
abbrev pub no_counts : Counts
no_counts = record { padding_sent = 0; normal_sent = 0; blocking_duration = 0 }

abbrev pub no_counters : Counters
no_counters = record { counter_a = 0; counter_b = 0 }

abbrev pub no_runtime : MachineRuntime
no_runtime = record {
  current_state = 0;
  state_limit = 0;
  counts = no_counts;
  machine_start = 0;
  allowed_blocked_microsec = 0;
  counters = no_counters;
}

-- the number of machines; a count above 16 is read as 16
abbrev pub num_machines : Framework → ℕ
num_machines fw = min fw.machines machine_max

abbrev pub runtime_at : Framework → ℕ → MachineRuntime
runtime_at fw i = get_or fw.runtime i no_runtime

abbrev pub with_runtime : Framework → List MachineRuntime → Framework
with_runtime fw runtime = record {
  machines = fw.machines;
  ended = fw.ended;
  current_time = fw.current_time;
  signal_pending = fw.signal_pending;
  fixed = fw.fixed;
  totals = fw.totals;
  runtime = runtime;
}

-- word k of a machine's row
abbrev pub machine_word : List ℕ → ℕ → ℕ → ℕ
machine_word machines i k = get_or machines (i * machine_words + k) 0

-- what machine i's transition reads: of its row, and of the framework
abbrev pub context_of : List ℕ → ℕ → ℕ → Fixed → Totals → Context
context_of machines i time fixed totals = record {
  machine = i;
  allowed_padding_packets = machine_word machines i allowed_padding_packets;
  machine_padding_bits = machine_word machines i max_padding_frac;
  machine_blocking_bits = machine_word machines i max_blocking_frac;
  current_time = time;
  max_padding_frac = fixed.max_padding_frac;
  max_blocking_frac = fixed.max_blocking_frac;
  framework_start = fixed.framework_start;
  normal_sent_packets = totals.normal_sent_packets;
  padding_sent_packets = totals.padding_sent_packets;
  blocking_duration = totals.blocking_duration;
  blocking_started = totals.blocking_started;
  blocking_active = totals.blocking_active;
}

-- a machine's own part of the state table
abbrev pub states_of : Tables → ℕ → List ℕ
states_of T i = rows_of state_words T.states (machine_word T.machines i first_state) (machine_word T.machines i num_states)

abbrev pub env_of : Tables → Source Place → Framework → ℕ → Env
env_of T D fw i =
    env (states_of T i) T.transitions D (context_of T.machines i fw.current_time fw.fixed fw.totals)

-- a machine's step goes back into the run; the other machines stay as they were
abbrev pub stored : Run → ℕ → Result Step ℕ → Outcome
stored x i (Err r) = stop r
stored x i (Ok d) = go (record {
  framework = with_runtime x.framework (set x.framework.runtime i d.runtime);
  actions = set x.actions i d.action;
  shared = d.shared;
})

-- ---- what an event counts
abbrev pub with_counts : MachineRuntime → Counts → MachineRuntime
with_counts r counts = record {
  current_state = r.current_state;
  state_limit = r.state_limit;
  counts = counts;
  machine_start = r.machine_start;
  allowed_blocked_microsec = r.allowed_blocked_microsec;
  counters = r.counters;
}

abbrev pub counts : ℕ → ℕ → ℕ → Counts
counts padding normal blocking = record { padding_sent = padding; normal_sent = normal; blocking_duration = blocking }

-- `blocked` is how long the blocking that ends was on
unfoldable pub counts_after : ℕ → ℕ → Counts → Counts
counts_after kind blocked c =
    cond (eqb kind normal_sent) (counts c.padding_sent (saturating_add c.normal_sent 1) c.blocking_duration)
    (cond (eqb kind padding_sent) (counts (saturating_add c.padding_sent 1) c.normal_sent c.blocking_duration)
    (cond (eqb kind blocking_end) (counts c.padding_sent c.normal_sent (saturating_add c.blocking_duration blocked))
    c))

-- a machine's own counts, just before its transition
abbrev pub counted_by : ℕ → ℕ → MachineRuntime → MachineRuntime
counted_by kind blocked r = with_counts r (counts_after kind blocked r.counts)

abbrev pub with_totals : Framework → Totals → Framework
with_totals fw totals = record {
  machines = fw.machines;
  ended = fw.ended;
  current_time = fw.current_time;
  signal_pending = fw.signal_pending;
  fixed = fw.fixed;
  totals = totals;
  runtime = fw.runtime;
}

abbrev pub with_packets : Totals → ℕ → ℕ → Totals
with_packets t normal padding = record {
  normal_sent_packets = normal;
  padding_sent_packets = padding;
  blocking_duration = t.blocking_duration;
  blocking_started = t.blocking_started;
  blocking_active = t.blocking_active;
}

abbrev pub with_blocking : Totals → ℕ → ℕ → ℕ → Totals
with_blocking t duration started active = record {
  normal_sent_packets = t.normal_sent_packets;
  padding_sent_packets = t.padding_sent_packets;
  blocking_duration = duration;
  blocking_started = started;
  blocking_active = active;
}

-- how long the ongoing blocking has been on
unfoldable pub blocked_for : ℕ → Totals → ℕ
blocked_for time t = cond (blocking_on t.blocking_active) (time - t.blocking_started) 0

-- A begin while blocking is on does not move the start; an end while it is off adds nothing.
unfoldable pub totals_after : ℕ → ℕ → Totals → Totals
totals_after kind time t =
    cond (eqb kind normal_sent) (with_packets t (saturating_add t.normal_sent_packets 1) t.padding_sent_packets)
    (cond (eqb kind padding_sent) (with_packets t t.normal_sent_packets (saturating_add t.padding_sent_packets 1))
    (cond (eqb kind blocking_begin) (cond (blocking_on t.blocking_active) t (with_blocking t t.blocking_duration time 1))
    (cond (eqb kind blocking_end)
    (cond (blocking_on t.blocking_active) (with_blocking t (saturating_add t.blocking_duration (blocked_for time t)) t.blocking_started 0) t)
    t)))

-- the framework's own counts
abbrev pub accounted : ℕ → Framework → Framework
accounted kind fw = with_totals fw (totals_after kind fw.current_time fw.totals)

abbrev pub blocked_now : Framework → ℕ
blocked_now fw = blocked_for fw.current_time fw.totals

-- ---- one machine's turn at an event
-- the kinds that go to their own machine alone
abbrev pub own_only : ℕ → Bool
own_only kind = eqb kind padding_sent || eqb kind timer_begin_kind || eqb kind timer_end_kind

-- the kinds at which a machine's own state limit falls
abbrev pub limit_falls : ℕ → ℕ → ℕ → Bool
limit_falls kind machine i = (eqb kind padding_sent || eqb kind blocking_begin || eqb kind timer_begin_kind) && eqb i machine

-- only where the machine neither changed state nor ended
abbrev pub after_transition : Env → Bool → Result Step ℕ → Result Step ℕ
after_transition E falls (Err n) = Err n
after_transition E falls (Ok d) =
    cond (falls && not d.changed && not (eqb d.runtime.current_state state_end))
    (decrement_limit E d.runtime d.shared d.action)
    (Ok d)

unfoldable pub turn : Env → ℕ → Bool → ℕ → MachineRuntime → Shared → Option TriggerAction → Result Step ℕ
turn E kind falls blocked r s p = after_transition E falls (transition E (event_of kind) (counted_by kind blocked r) s p)

unfoldable pub machine_turn : Tables → Source Place → ℕ → ℕ → ℕ → ℕ → Run → Outcome
machine_turn T D kind machine blocked i x =
    stored x i
    (turn (env_of T D x.framework i) kind (limit_falls kind machine i) blocked
    (runtime_at x.framework i) x.shared (get_or x.actions i no_action))

-- ---- process_event: the framework's counts, then the machines in order; an unknown machine's own event is counted and no more
abbrev pub account : ℕ → Run → Run
account kind x = record { framework = accounted kind x.framework; actions = x.actions; shared = x.shared }

abbrev pub first_for : ℕ → ℕ → ℕ
first_for kind machine = cond (own_only kind) machine 0

abbrev pub turns_for : ℕ → ℕ → ℕ → ℕ
turns_for kind machine count = cond (own_only kind) (cond (ltb machine count) 1 0) count

unfoldable pub process_event : Tables → Source Place → ℕ → ℕ → Run → Outcome
process_event T D kind machine x =
    each (machine_turn T D kind machine (blocked_now x.framework))
    (turns_for kind machine (num_machines x.framework)) (first_for kind machine) (account kind x)

-- event i of an event list: its kind and its machine
abbrev pub kind_at : List ℕ → ℕ → ℕ
kind_at es i = get_or es (i * 2) 0

abbrev pub machine_at : List ℕ → ℕ → ℕ
machine_at es i = get_or es (i * 2 + 1) 0

abbrev pub event_turn : Tables → Source Place → List ℕ → ℕ → Run → Outcome
event_turn T D es i x = process_event T D (kind_at es i) (machine_at es i) x

-- ---- signals
abbrev pub pending_of : Run → ℕ
pending_of x = x.shared.signal_pending

-- the pending signal is taken
abbrev pub unsignalled : Run → Run
unsignalled x = record { framework = x.framework; actions = x.actions; shared = with_signal x.shared 0 }

unfoldable pub signal_machine : Tables → Source Place → ℕ → Run → Outcome
signal_machine T D i x =
    stored x i
    (transition (env_of T D x.framework i) signal (runtime_at x.framework i) x.shared (get_or x.actions i no_action))

-- `pending` is the signal that was taken: 2 + i leaves machine i out
abbrev pub signal_turn : Tables → Source Place → ℕ → ℕ → Run → Outcome
signal_turn T D pending i x = cond (eqb pending (2 + i)) (go x) (signal_machine T D i x)

-- If the round raised another, the machine left out is signalled last, and what that raises waits for the next call; with none
-- left out, that signal is dropped.
abbrev pub last_signal : Tables → Source Place → ℕ → Run → Outcome
last_signal T D pending x =
    cond (eqb (pending_of x) 0) (go x)
    (cond (leb 2 pending && ltb pending (2 + num_machines x.framework))
    (signal_machine T D (pending - 2) (unsignalled x))
    (go (unsignalled x)))

unfoldable pub signals : Tables → Source Place → Run → Outcome
signals T D x =
    cond (eqb (pending_of x) 0) (go x)
    (and_then (each (signal_turn T D (pending_of x)) (num_machines x.framework) 0 (unsignalled x)) (last_signal T D (pending_of x)))
