-- `lines::writing::put_lines` meets its contract: before each turn the sheet is the lines so far, and what stood behind them.
use Rattle.std.proofs.Common.{arith}
use Rattle.lines.proofs.Places.{place}
use Rattle.lines.proofs.Written.{one_line}
use Rattle.lines.proofs.writing.put_lines.Goals as goal

pub loop-i-preserved : goal.loop-i-preserved
loop-i-preserved c =
    let a = c.args in
    let l = c.loop-i in
    one_line a.kind.number a.kind.words a.table.now a.sheet.now l.sheet c.put_line.new.line a.kind.size l.i a.kind.sized
    (omega (arith, place a.kind.words l.i a.n (omega arith)))
    l.invariant
    c.put_line.ensures
