use Rattle.std.proofs.Common.{◌≡◌, ◌-◌}
use Rattle.machine.specs.State.{first_of, count_of}
use Rattle.rows.specs.First.{first_refusal}
use Rattle.rows.specs.Row.{pair_refusal}
use Rattle.tables.specs.State.{events_refusal}
use Rattle.tables.proofs.state.check_events.Given as goal

abbrev pub invariant-loop-first : goal.invariant-loop-first
invariant-loop-first l =
    events_refusal l.transitions.words.now l.transitions.states l.row
    ≡ first_refusal (λ event. pair_refusal l.transitions.words.now l.transitions.states (first_of l.row event) (count_of l.row event))
    (13 - l.first-index) l.first-index
