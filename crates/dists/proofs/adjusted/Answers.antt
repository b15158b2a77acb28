-- `adjusted` meets its contract: the code's test, at what `or_zero` ensures, is that of the
-- definition. Assumes nothing.
use Rattle.dists.specs.Dist.{adjusted, capped}
use Rattle.dists.proofs.adjusted.Goals as goal

pub returns-then-max-x : goal.returns-then-max-x
unfolding adjusted capped
returns-then-max-x c = rw (rw c.or_zero-x.ensures at c.if-max-x.true)

pub returns : goal.returns
unfolding adjusted capped
returns c = rw (rw c.or_zero-x.ensures at c.if-max-x.false) c.or_zero-x.ensures
