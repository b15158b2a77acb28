use Rattle.cells.specs.Cells.{word_columns, is_cell}
use Rattle.cells.specs.Laws.{Passed}
use Rattle.cells.proofs.good_cells.Given as goal

abbrev pub invariant-loop-i : goal.invariant-loop-i
invariant-loop-i l = Passed is_cell word_columns l.words l.bytes l.i
