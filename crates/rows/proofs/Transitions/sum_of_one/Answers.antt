-- `Transitions::sum_of_one` meets its contract: no target stands before the first. Assumes nothing.
use Rattle.rows.proofs.Rows.{one_ends}
use Rattle.rows.proofs.Transitions.sum_of_one.Goals as goal

pub returns : goal.returns
returns c = rw c.probability.ensures (one_ends _ _ c.told-only c.requires)
