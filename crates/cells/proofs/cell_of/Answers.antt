-- `cells::cell_of` meets its contract: before each turn the columns so far are those of a number.
use Rattle.std.proofs.Common.{arith}
use Rattle.cells.proofs.Columns.{gone_on}
use Rattle.cells.proofs.cell_of.Goals as goal

pub loop-b-preserved : goal.loop-b-preserved
loop-b-preserved c =
    let l = c.loop-b in
    gone_on c.args.bytes.now l.b-index l.n l.invariant.1 l.invariant.0 (omega arith) c.in_ok-n.n (omega arith) c.in_ok-n.ensures
