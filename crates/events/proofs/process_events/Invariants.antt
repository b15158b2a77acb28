use Rattle.std.specs.Prelude.{◌≡◌, ◌-◌, ◌/◌, length}
use Rattle.machine.specs.Tables.{lent_tables}
use Rattle.steps.specs.Events.{each, event_turn}
use Rattle.events.proofs.process_events.Given as goal

-- the whole run is what is left of it
abbrev pub invariant-loop-i : goal.invariant-loop-i
invariant-loop-i g l =
    let turn = event_turn (lent_tables l.t) (g.D.Draws.source l.draws) l.events in
    (each turn (length l.events / 2) 0 l.initial.x ≡ each turn (length l.events / 2 - l.i) l.i l.x)
    × (l.x.framework.machines ≡ l.initial.x.framework.machines)
