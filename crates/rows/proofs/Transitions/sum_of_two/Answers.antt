-- `Transitions::sum_of_two` meets its contract: one target stands before the second. Assumes nothing.
use Rattle.rows.proofs.Rows.{both_end}
use Rattle.rows.proofs.Transitions.sum_of_two.Goals as goal

pub returns : goal.returns
returns c = rw (c.probability.ensures, c.probability-2.ensures) (both_end _ _ _ c.told-first c.told-last c.requires.0 c.requires.1)
