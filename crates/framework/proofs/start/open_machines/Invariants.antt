use Rattle.std.specs.Prelude.{◌≡◌, ◌-◌}
use Rattle.machine.specs.Tables.{lent_tables}
use Rattle.steps.specs.Events.{each}
use Rattle.steps.specs.Framework.{open_turn, rows_in, open_run}
use Rattle.framework.proofs.Opens.{opens}
use Rattle.framework.proofs.start.open_machines.Given as goal

-- the whole opening is what is left of it; the time stays
abbrev pub invariant-loop-m : goal.invariant-loop-m
invariant-loop-m g l =
    let T = lent_tables l.t in
    let D = g.D.Draws.source l.draws in
    (open_run T l.max_padding_frac l.max_blocking_frac l.time D
    ≡ each (open_turn T D) (rows_in T.machines - l.m) l.m (opens l.f l.at))
    × (l.f.current_time ≡ l.time)
