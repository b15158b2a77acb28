use Rattle.std.proofs.Common.{◌≡◌, ◌++◌, drop}
use Rattle.cells.specs.Cells.{word_columns, each, word_in}
use Rattle.lines.specs.Lines.{kind_columns}
use Rattle.lines.proofs.reading.put_words.Given as goal

abbrev pub invariant-loop-i : goal.invariant-loop-i
invariant-loop-i l = l.row ≡ each word_in word_columns l.i (drop kind_columns l.line) ++ drop l.i l.initial.row
