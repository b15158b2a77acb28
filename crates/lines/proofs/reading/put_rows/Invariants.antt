use Rattle.std.proofs.Common.{◌≡◌, ◌*◌, ◌++◌, drop}
use Rattle.cells.specs.Cells.{each}
use Rattle.lines.specs.Lines.{words_of}
use Rattle.lines.proofs.reading.put_rows.Given as goal

abbrev pub invariant-loop-i : goal.invariant-loop-i
invariant-loop-i l = l.table ≡ each (words_of l.kind.words) l.kind.size l.i l.text ++ drop (l.kind.words * l.i) l.initial.table
