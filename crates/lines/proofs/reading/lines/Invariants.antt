use Rattle.std.proofs.Common.{◌/◌, length}
use Rattle.cells.specs.Laws.{Passed}
use Rattle.lines.specs.Lines.{is_line}
use Rattle.lines.proofs.reading.lines.Given as goal

abbrev pub invariant-loop-i : goal.invariant-loop-i
invariant-loop-i l = Passed (is_line l.kind.number l.kind.words) l.kind.size (length l.text / l.kind.size) l.text l.i
