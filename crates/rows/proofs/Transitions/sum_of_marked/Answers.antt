-- `Transitions::sum_of_marked` meets its contract: its marks are clear, and one for each target. Assumes nothing.
use Rattle.std.proofs.Common.{rules}
use Rattle.rows.proofs.Bits.{clear}
use Rattle.rows.proofs.Targets.{met_none}
use Rattle.rows.proofs.Transitions.sum_of_marked.Goals as goal

pub sum_of_each-requires : goal.sum_of_each-requires
sum_of_each-requires g c = (search rules, c.requires.room, met_none _ _ _ (clear g.row.WORDS))
