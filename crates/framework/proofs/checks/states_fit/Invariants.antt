use Rattle.std.specs.Prelude.{◌≡◌, true}
use Rattle.machine.specs.Tables.{lent_tables}
use Rattle.steps.specs.Framework.{states_fit}
use Rattle.framework.proofs.checks.states_fit.Given as goal

abbrev pub invariant-loop-m : goal.invariant-loop-m
invariant-loop-m l = states_fit (lent_tables l.t) l.fw l.m ≡ true
