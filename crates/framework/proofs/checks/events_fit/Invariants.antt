use Rattle.std.specs.Prelude.{◌≡◌, true}
use Rattle.steps.specs.Framework.{kinds_fit}
use Rattle.framework.proofs.checks.events_fit.Given as goal

abbrev pub invariant-loop-i : goal.invariant-loop-i
invariant-loop-i l = kinds_fit l.events l.i ≡ true
