-- `lines::reading::put_words` meets its contract: the first i words are those of the line, and the others stay.
use Rattle.std.proofs.Common.{arith}
use Rattle.lines.proofs.Filled.{one_word}
use Rattle.lines.proofs.reading.put_words.Goals as goal

pub loop-i-preserved : goal.loop-i-preserved
loop-i-preserved c =
    let a = c.args in
    let l = c.loop-i in
    one_word a.line.now a.words l.i (omega arith) c.requires.0 a.row.now l.row c.unwrap_or.result c.cell_of.result (omega arith) l.invariant c.cell_of.ensures c.unwrap_or.ensures
