use Rattle.std.specs.Prelude.{◌≡◌, ◌-◌}
use Rattle.machine.specs.Tables.{lent_tables}
use Rattle.steps.specs.Events.{each, signal_turn}
use Rattle.signals.proofs.process_signals.Given as goal

-- the whole round is what is left of it
abbrev pub invariant-loop-m : goal.invariant-loop-m
invariant-loop-m g l =
    let turn = signal_turn (lent_tables l.t) (g.D.Draws.source l.draws) l.taken in
    (each turn l.m-end 0 l.initial.x ≡ each turn (l.m-end - l.m) l.m l.x)
    × (l.x.framework.machines ≡ l.initial.x.framework.machines)
