-- `Marks::meet` meets its contract: 1 << k is 2 ^ k, since k is below 64. Assumes nothing.
use Rattle.std.proofs.Common.{refl, arith, ◌%◌}
use Rattle.rows.specs.Marks.{is_marked, marked}
use Rattle.rows.proofs.Bits.{one_bit}
use Rattle.rows.proofs.marks.Marks.meet.Goals as goal

pub returns-clause-met : goal.returns-clause-met
unfolding is_marked
returns-clause-met g c = refl

pub returns-clause-more : goal.returns-clause-more
unfolding marked
returns-clause-more g c = rw (one_bit (c.args.m % 64) (omega arith))
