-- `text::call_text` meets its contract: before each turn the text is the call's line, the lines of the rows so far, and
-- what stood behind them.
use Rattle.std.proofs.Common.{◌≡◌, refl, arith}
use Rattle.text.proofs.Lines.{no_row, one_row, all_rows_lem}
use Rattle.text.proofs.call_text.Goals as goal

pub loop-i-init : goal.loop-i-init
loop-i-init c =
    let a = c.args in
    no_row a.call a.refusal a.actions a.rows.now a.out.now _ c.call_line.ensures

pub loop-i-preserved : goal.loop-i-preserved
loop-i-preserved c =
    let l = c.loop-i in
    let a = c.args in
    one_row a.call a.refusal a.actions a.rows.now _ l.out _ l.i l.invariant c.put_row.ensures

pub returns : goal.returns
returns c =
    let a = c.args in
    let l = c.loop-i in
    let e : l.i ≡ a.actions = omega arith in (refl, all_rows_lem a.call a.refusal a.actions a.rows.now a.out.now _ c.call_line.ensures l.out l.i e l.invariant)
