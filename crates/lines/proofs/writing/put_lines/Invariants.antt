use Rattle.std.proofs.Common.{◌≡◌, ◌*◌, ◌++◌, drop}
use Rattle.cells.specs.Cells.{each}
use Rattle.lines.specs.Lines.{line_of}
use Rattle.lines.proofs.writing.put_lines.Given as goal

abbrev pub invariant-loop-i : goal.invariant-loop-i
invariant-loop-i l = l.sheet ≡ each (line_of l.kind.number) l.kind.words l.i l.table ++ drop (l.kind.size * l.i) l.initial.sheet
