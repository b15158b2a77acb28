use Rattle.std.proofs.Common.{◌≡◌, ◌-◌, length}
use Rattle.std.specs.List.{concat}
use Rattle.machine.specs.State.{state_row}
use Rattle.rows.specs.First.{first_refusal}
use Rattle.tables.specs.State.{state_refusal}
use Rattle.tables.specs.Machine.{each_state}
use Rattle.tables.proofs.machine_row.check_each_state.Given as goal

abbrev pub invariant-loop-row : goal.invariant-loop-row
invariant-loop-row l =
    each_state l.transitions.words.now l.transitions.states (concat l.rows)
    ≡ first_refusal (λ state. state_refusal l.transitions.words.now l.transitions.states (state_row (concat l.rows) state))
    (length l.rows - l.row-index) l.row-index
