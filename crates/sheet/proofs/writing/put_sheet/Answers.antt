-- `sheet::writing::put_sheet` meets its contract: the lines of each kind behind those before.
use mathlib.Core.Path.{sym, ◌∙◌}
use native.Mathlib.Omega.{arith}
use Rattle.sheet.proofs.Written.{length-sheet, sheeted}
use Rattle.sheet.proofs.writing.put_sheet.Goals as goal

pub returns : goal.returns
returns c =
    let a = c.args.tables.now in
    let M = a.machines.now in
    let S = a.states.now in
    let T = a.transitions.now in
    let e = c.rows_of-rows.ensures in
    rw e (
      sym (length-sheet M S T ∙ omega arith),
      sheeted M S T c.args.sheet.now _ _ _ (rw e at c.put_lines.ensures) (rw e at c.put_lines-2.ensures) (rw e at c.put_lines-3.ensures),
    )
