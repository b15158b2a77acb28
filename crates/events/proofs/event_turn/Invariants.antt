use Rattle.std.specs.Prelude.{◌≡◌, ◌-◌}
use Rattle.machine.specs.Tables.{lent_tables}
use Rattle.steps.specs.Events.{each, machine_turn}
use Rattle.events.proofs.event_turn.Given as goal

-- all machines' turns are those that are left
abbrev pub invariant-loop-m : goal.invariant-loop-m
invariant-loop-m g l =
    let turn = machine_turn (lent_tables l.t) (g.D.Draws.source l.draws) l.kind l.machine l.blocked in
    (each turn (l.m-end - l.initial.m) l.initial.m l.initial.x ≡ each turn (l.m-end - l.m) l.m l.x)
    × (l.x.framework.machines ≡ l.initial.x.framework.machines)
