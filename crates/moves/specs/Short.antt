-- A machine's turn after its choice, on the short way: to a state of the machine, where no counter reports zero, no draw is refused
-- and no limit falls.
use Rattle.std.specs.Prelude.{Result, Ok, Err, Option, Some, None}
use Rattle.machine.specs.declared.source.Draw.{Draw}
use Rattle.steps.specs.declared.TriggerAction.{TriggerAction}
use Rattle.std.specs.Prelude.{ℕ, List, Bool, cond, ◌&&◌, ◌||◌, eqb}
use Rattle.machine.specs.Constants.{state_end, state_signal}
use Rattle.machine.specs.Source.{Values}
use Rattle.machine.specs.State.{state_row}
use Rattle.machine.specs.declared.source.Place.{Place}
use Rattle.steps.specs.Limits.{below_action_limits}
use Rattle.steps.specs.Transition.{enter, update_counters, schedule_action}
use Rattle.steps.specs.declared.Context.{Context}
use Rattle.steps.specs.declared.MachineRuntime.{MachineRuntime}
use Rattle.steps.specs.declared.Shared.{Shared}
use Rattle.steps.specs.declared.Tally.{Tally}
use Rattle.steps.specs.declared.Zeroed.{Zeroed}
use Rattle.moves.specs.declared.settle.Moved.{Moved}
use Rattle.moves.specs.declared.settle.Short.{Short}
use Rattle.moves.specs.declared.settle.Short.TheVariants.{Elsewhere, Kept, Acted}

-- ---- what a move leaves: the machine, and what the call shares
abbrev pub runtime_after : MachineRuntime → Moved → MachineRuntime
runtime_after r d = record {
  current_state = d.current_state;
  state_limit = d.state_limit;
  counts = r.counts;
  machine_start = r.machine_start;
  allowed_blocked_microsec = r.allowed_blocked_microsec;
  counters = d.counters;
}

abbrev pub shared_after : Shared → Moved → Shared
shared_after s d = record { signal_pending = s.signal_pending; place = d.place; zeroed = d.zeroed }

-- of the machine as it entered the state, and its counters
abbrev pub move_of : MachineRuntime → Tally → Place → Moved
move_of q t at = record {
  current_state = q.current_state;
  state_limit = q.state_limit;
  counters = t.counters;
  place = at;
  zeroed = t.zeroed;
}

-- ---- the way: a refused draw and a report are left to the long one
abbrev pub scheduled_in : MachineRuntime → Tally → Result (Draw TriggerAction) ℕ → Short
scheduled_in q t (Err n) = Elsewhere
scheduled_in q t (Ok d) = Acted d.value (move_of q t d.at)

unfoldable pub settle_in : List ℕ → Values Place → Context → MachineRuntime → Tally → Short
settle_in row values c q t =
    cond (below_action_limits c q row) (scheduled_in q t (schedule_action row values t.place)) (Kept (move_of q t t.place))

abbrev pub settle_with : List ℕ → Values Place → Context → MachineRuntime → Result Tally ℕ → Short
settle_with row values c q (Err n) = Elsewhere
settle_with row values c q (Ok t) = cond t.reports Elsewhere (settle_in row values c q t)

abbrev pub settle_from : List ℕ → Values Place → Context → Zeroed → Result (Draw MachineRuntime) ℕ → Short
settle_from row values c zeroed (Err n) = Elsewhere
settle_from row values c zeroed (Ok d) =
    settle_with row values c d.value (update_counters row values d.value.counters zeroed d.at)

unfoldable pub settle : List ℕ → Values Place → Context → ℕ → MachineRuntime → Shared → Short
settle row values c next r s = settle_from row values c s.zeroed (enter row values r next s.place)

-- a limit does not fall where the state changes
unfoldable pub short : List ℕ → Values Place → Context → Bool → Option ℕ → MachineRuntime → Shared → Short
short rows values c falls None r s = Elsewhere
short rows values c falls (Some next) r s =
    cond (eqb next state_end || eqb next state_signal || (falls && eqb r.current_state next)) Elsewhere
    (settle (state_row rows next) values c next r s)
