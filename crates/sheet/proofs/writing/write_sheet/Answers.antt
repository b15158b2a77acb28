-- `sheet::writing::write_sheet` meets its contract: one case for each refusal, and one for the sheet.
use Rattle.std.proofs.Common.{sym}
use borrow.Author.Tests.{leb-true}
use Rattle.sheet.proofs.Answered.{not_rows, no_space, written_out}
use Rattle.sheet.proofs.writing.write_sheet.Goals as goal

pub returns-then-not-whole_rows : goal.returns-then-not-whole_rows
returns-then-not-whole_rows c =
    let a = c.args.tables.now in
    not_rows a.machines.now a.states.now a.transitions.now c.args.sheet.now (sym c.if-not-whole_rows.ensures)

pub returns-then-not-lines_fit : goal.returns-then-not-lines_fit
returns-then-not-lines_fit c =
    let a = c.args.tables.now in
    no_space a.machines.now a.states.now a.transitions.now c.args.sheet.now (sym c.if-not-whole_rows.ensures) (sym (rw c.rows_of.ensures at c.if-not-lines_fit.ensures))

pub put_sheet-requires : goal.put_sheet-requires
put_sheet-requires c = leb-true _ _ (sym (rw c.rows_of.ensures at c.if-not-lines_fit.ensures))

pub returns : goal.returns
returns c =
    let a = c.args.tables.now in
    let p = c.put_sheet.ensures in
    written_out a.machines.now a.states.now a.transitions.now c.args.sheet.now _ _ (sym c.if-not-whole_rows.ensures) (sym (rw c.rows_of.ensures at c.if-not-lines_fit.ensures)) p.0 p.1
