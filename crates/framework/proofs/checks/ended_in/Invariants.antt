use Rattle.std.specs.Prelude.{◌≡◌}
use Rattle.steps.specs.Framework.{ended_in}
use Rattle.framework.proofs.checks.ended_in.Given as goal

abbrev pub invariant-loop-m : goal.invariant-loop-m
invariant-loop-m l = l.ended ≡ ended_in l.fw.runtime l.m
