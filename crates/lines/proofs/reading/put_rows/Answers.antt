-- `lines::reading::put_rows` meets its contract: the first i rows are those of the lines, and the other words stay.
use Rattle.std.proofs.Common.{arith}
use Rattle.lines.proofs.Places.{place}
use Rattle.lines.proofs.Filled.{one_row}
use Rattle.lines.proofs.reading.put_rows.Goals as goal

pub loop-i-preserved : goal.loop-i-preserved
loop-i-preserved c =
    let a = c.args in
    let l = c.loop-i in
    one_row a.text.now a.kind.words a.kind.size l.i a.kind.sized a.table.now l.table c.put_words.new.row
    (omega (arith, place a.kind.size l.i a.n (omega arith)))
    l.invariant
    c.put_words.ensures
