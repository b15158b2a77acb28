use Rattle.std.proofs.Common.{◌≡◌, ◌-◌, length}
use Rattle.std.specs.List.{concat}
use Rattle.machine.specs.State.{rows_of}
use Rattle.rows.specs.First.{first_refusal}
use Rattle.tables.specs.Machine.{machine_refusal, machines_refusal}
use Rattle.tables.proofs.check_machines.Given as goal

abbrev pub invariant-loop-row : goal.invariant-loop-row
invariant-loop-row l =
    machines_refusal (concat l.machines) l.t.states.now l.t.transitions.now (length l.machines)
    ≡ first_refusal (λ i. machine_refusal l.t.states.now l.t.transitions.now (rows_of 6 (concat l.machines) i 1)) (length l.machines - l.row-index) l.row-index
