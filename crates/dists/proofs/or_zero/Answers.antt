-- `or_zero` meets its contract: the code's test is that of the definition. Assumes nothing.
use Rattle.dists.specs.Dist.{or_zero}
use Rattle.dists.proofs.or_zero.Goals as goal

pub returns-then-is_finite-x : goal.returns-then-is_finite-x
unfolding or_zero
returns-then-is_finite-x c = rw (rw c.is_finite.ensures at c.if-is_finite-x.true)

pub returns : goal.returns
unfolding or_zero
returns c = rw (rw c.is_finite.ensures at c.if-is_finite-x.false)
