-- framework.rs: the opening (Framework::new), a batch of events (trigger_events) with its refusals and its output, and
-- all_machines_ended.
use Rattle.std.specs.Prelude.{Result, Ok, Err, Option, Some, None}
use Rattle.machine.specs.declared.source.Draw.{Draw}
use Rattle.std.specs.Prelude.{ℕ, zero, suc, ◌+◌, ◌*◌, ◌/◌, ◌%◌, List, [], ◌∷◌, ◌++◌, Bool, true, false, cond, ◌&&◌, ◌||◌, length, get_or, set, drop, replicate, ltb, leb, eqb, Float}
use Rattle.numbers.specs.Finite.{zero_f}
use Rattle.machine.specs.Constants.{machine_max, machine_words, row_words, allowed_blocked_microsec, num_states, state_end}
use Rattle.refusal.specs.Refusal.{number}
use Rattle.machine.specs.Source.{Values, Source, draw, place}
use Rattle.machine.specs.Event.{timer_end_kind}
use Rattle.machine.specs.State.{state_row}
use Rattle.machine.specs.declared.source.Place.{Place}
use Rattle.samples.specs.Action.{action_of, sample_limit}
use Rattle.dists.specs.Dist.{got_whole}
unfoldable pub use Rattle.rows.specs.First.{or_else}
use Rattle.tables.specs.Framework.{fractions_refusal}
use Rattle.tables.specs.Machine.{tables_refusal}
use Rattle.steps.specs.Transition.{no_action, with_place}
use Rattle.steps.specs.Events.{Tables, Outcome, stop, go, and_then, each, no_counts, no_counters, no_runtime, num_machines, runtime_at, with_runtime, machine_word, states_of, event_turn, kind_at, signals}
use Rattle.steps.specs.declared.Run.{Run}
use Rattle.steps.specs.declared.MachineRuntime.{MachineRuntime}
use Rattle.steps.specs.declared.Fixed.{Fixed}
use Rattle.steps.specs.declared.Totals.{Totals}
use Rattle.steps.specs.declared.Zeroed.{Zeroed}
use Rattle.steps.specs.declared.Framework.{Framework}
use Rattle.steps.specs.declared.Shared.{Shared}
use Rattle.steps.specs.declared.TriggerAction.{TriggerAction}
use Rattle.steps.specs.declared.Opened.{Opened}
use Rattle.steps.specs.declared.Answer.{Answer}

-- ---- a call begins: no actions, no counter has reported zero, both tapes at their front
abbrev pub none_zeroed : Zeroed
none_zeroed = record { counter_a = false; counter_b = false }

abbrev pub shared_from : ℕ → Shared
shared_from pending = record { signal_pending = pending; place = place 0 0; zeroed = none_zeroed }

abbrev pub no_actions : List (Option TriggerAction)
no_actions = replicate machine_max no_action

-- ---- the opening
abbrev pub fixed : Float → Float → ℕ → Fixed
fixed padding blocking time = record { max_padding_frac = padding; max_blocking_frac = blocking; framework_start = time }

-- blocking is off
abbrev pub no_totals : ℕ → Totals
no_totals time = record {
  normal_sent_packets = 0;
  padding_sent_packets = 0;
  blocking_duration = 0;
  blocking_started = time;
  blocking_active = 0;
}

-- before its machines are in; blocking counts from the opening's time
abbrev pub new_framework : ℕ → Float → Float → ℕ → Framework
new_framework machines padding blocking time = record {
  machines = machines;
  ended = 0;
  current_time = time;
  signal_pending = 0;
  fixed = fixed padding blocking time;
  totals = no_totals time;
  runtime = replicate machine_max no_runtime;
}

abbrev pub no_framework : Framework
no_framework = new_framework 0 zero_f zero_f 0

abbrev pub new_runtime : ℕ → ℕ → ℕ → MachineRuntime
new_runtime time allowed limit = record {
  current_state = 0;
  state_limit = limit;
  counts = no_counts;
  machine_start = time;
  allowed_blocked_microsec = allowed;
  counters = no_counters;
}

-- the start state's limit; without an action it stays 0
unfoldable pub start_limit : List ℕ → Values Place → Place → Result (Draw ℕ) ℕ
start_limit row values at = cond (eqb (action_of row) 0) (got_whole 0 at) (sample_limit row values at)

-- machine i as it opens at a time, and where the source goes on
abbrev pub opened_with : ℕ → ℕ → Result (Draw ℕ) ℕ → Result (Draw MachineRuntime) ℕ
opened_with time allowed (Err n) = Err n
opened_with time allowed (Ok w) = Ok (draw (new_runtime time allowed w.value) w.at)

unfoldable pub open_machine : Tables → Values Place → ℕ → ℕ → Place → Result (Draw MachineRuntime) ℕ
open_machine T values i time at =
    opened_with time (machine_word T.machines i allowed_blocked_microsec) (start_limit (state_row (states_of T i) 0) values at)

abbrev pub opened : ℕ → Run → Result (Draw MachineRuntime) ℕ → Outcome
opened i x (Err r) = stop r
opened i x (Ok d) = go (record {
  framework = with_runtime x.framework (set x.framework.runtime i d.value);
  actions = x.actions;
  shared = with_place x.shared d.at;
})

abbrev pub open_turn : Tables → Source Place → ℕ → Run → Outcome
open_turn T source i x = opened i x (open_machine T source.values i x.framework.current_time x.shared.place)

-- how many machines a table has
abbrev pub rows_in : List ℕ → ℕ
rows_in machines = length machines / machine_words

abbrev pub open_run : Tables → Float → Float → ℕ → Source Place → Outcome
open_run T padding blocking time source =
    each (open_turn T source) (rows_in T.machines) 0
    (record { framework = new_framework (rows_in T.machines) padding blocking time; actions = no_actions; shared = shared_from 0 })

-- a refused opening: the number, a framework with no machines, all zero
abbrev pub opened_by : Outcome → Opened
opened_by (stop n) = record { refusal = n; chance_used = 0; value_used = 0; framework = no_framework }
opened_by (go x) = record {
  refusal = 0;
  chance_used = x.shared.place.chance_at;
  value_used = x.shared.place.value_at;
  framework = x.framework;
}

-- the framework's fractions, then the tables
abbrev pub open_refusal : Tables → Float → Float → ℕ
open_refusal T padding blocking =
    or_else (fractions_refusal padding blocking) (tables_refusal T.machines T.states T.transitions)

-- Framework::new
unfoldable pub opening : Tables → Float → Float → ℕ → Source Place → Opened
opening T padding blocking time source =
    let n = open_refusal T padding blocking in
    cond (eqb n 0) (opened_by (open_run T padding blocking time source)) (opened_by (stop n))

-- ---- what a batch refuses before it runs
-- 18: a current state that is neither ended nor in the machine, of the first n machines
unfoldable pub states_fit : Tables → Framework → ℕ → Bool
states_fit T fw zero = true
states_fit T fw (suc n) =
    states_fit T fw n
    && (eqb (runtime_at fw n).current_state state_end || ltb (runtime_at fw n).current_state (machine_word T.machines n num_states))

-- how many of the first n machines have ended
abbrev pub has_ended : MachineRuntime → Bool
has_ended r = eqb r.current_state state_end

unfoldable pub ended_in : List MachineRuntime → ℕ → ℕ
ended_in rs zero = 0
ended_in rs (suc n) = ended_in rs n + cond (has_ended (get_or rs n no_runtime)) 1 0

-- 18: the machine count, the states, a pending signal that leaves out an unknown machine, and the ended number
unfoldable pub fits_tables : Tables → Framework → Bool
fits_tables T fw =
    eqb fw.machines (rows_in T.machines)
    && states_fit T fw (rows_in T.machines)
    && ltb fw.signal_pending (2 + rows_in T.machines)
    && eqb fw.ended (ended_in fw.runtime (rows_in T.machines))

-- 19: a kind above 9, of the first n events
unfoldable pub kinds_fit : List ℕ → ℕ → Bool
kinds_fit es zero = true
kinds_fit es (suc n) = kinds_fit es n && leb (kind_at es n) timer_end_kind

unfoldable pub events_fit : List ℕ → Bool
events_fit es = eqb (length es % 2) 0 && kinds_fit es (length es / 2)

-- the table checks; 18; 19; 20: an output of fewer than 6 words for each machine
unfoldable pub batch_refusal : Framework → Tables → List ℕ → List ℕ → ℕ
batch_refusal fw T es out =
    or_else (tables_refusal T.machines T.states T.transitions)
    (cond (fits_tables T fw)
    (cond (events_fit es)
    (cond (ltb (length out) (row_words * rows_in T.machines)) 20 0)
    19)
    18)

-- ---- a batch that runs (trigger_events): the new time, the events in order, then the signals
abbrev pub with_time : Framework → ℕ → Framework
with_time fw time = record {
  machines = fw.machines;
  ended = fw.ended;
  current_time = time;
  signal_pending = fw.signal_pending;
  fixed = fw.fixed;
  totals = fw.totals;
  runtime = fw.runtime;
}

-- it ends: the ended machines are counted, and a signal that is still pending waits for the next call
abbrev pub ending : Framework → ℕ → Framework
ending fw pending = record {
  machines = fw.machines;
  ended = ended_in fw.runtime (num_machines fw);
  current_time = fw.current_time;
  signal_pending = pending;
  fixed = fw.fixed;
  totals = fw.totals;
  runtime = fw.runtime;
}

abbrev pub begin : Framework → ℕ → Run
begin fw time = record { framework = with_time fw time; actions = no_actions; shared = shared_from fw.signal_pending }

unfoldable pub trigger_events : Tables → Source Place → ℕ → List ℕ → Framework → Outcome
trigger_events T D time es fw = and_then (each (event_turn T D es) (length es / 2) 0 (begin fw time)) (signals T D)

-- ---- the output: one row of six words for each action, in machine order. Its kind is never 0: `below_action_limits` lets no state
-- without an action schedule one
abbrev pub action_row : ℕ → Option TriggerAction → List ℕ
action_row i None = []
action_row i (Some p) = i ∷ p.kind ∷ p.flags ∷ p.timer ∷ p.timeout ∷ p.duration ∷ []

-- the rows of the first n machines
unfoldable pub action_rows : List (Option TriggerAction) → ℕ → List ℕ
action_rows actions zero = []
action_rows actions (suc n) = action_rows actions n ++ action_row n (get_or actions n no_action)

-- words after the last row stay
abbrev pub written : List ℕ → List ℕ → List ℕ
written rows out = rows ++ drop (length rows) out

-- ---- a batch: its answer, and its output afterwards
pub record Batch : Type 0 where
  pub answer : Answer
  pub out : List ℕ

-- refused: the framework as it went in, both draw counts 0, the output untouched
abbrev pub refused : Framework → List ℕ → ℕ → Batch
refused fw out n = record {
  answer = record { refusal = n; actions = 0; chance_used = 0; value_used = 0; framework = fw };
  out = out;
}

abbrev pub returned_by : Run → List ℕ
returned_by x = action_rows x.actions (num_machines x.framework)

abbrev pub accepted : Run → List ℕ → Batch
accepted x out = record {
  answer = record {
    refusal = 0;
    actions = length (returned_by x) / row_words;
    chance_used = x.shared.place.chance_at;
    value_used = x.shared.place.value_at;
    framework = ending x.framework x.shared.signal_pending;
  };
  out = written (returned_by x) out;
}

abbrev pub concluded : Framework → List ℕ → Outcome → Batch
concluded fw out (stop n) = refused fw out n
concluded fw out (go x) = accepted x out

unfoldable pub batch : Framework → Tables → ℕ → List ℕ → Source Place → List ℕ → Batch
batch fw T time es D out =
    let n = batch_refusal fw T es out in
    cond (eqb n 0) (concluded fw out (trigger_events T D time es fw)) (refused fw out n)

-- ---- all_machines_ended: the ended number is the machine count, one above 16 read as 16
unfoldable pub all_machines_ended : Framework → Bool
all_machines_ended fw = eqb fw.ended (num_machines fw)
