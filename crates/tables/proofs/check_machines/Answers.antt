-- `check_machines` meets its contract. The loop's invariant: the answer is the first refusal from this machine on.
-- Assumes nothing.
use Rattle.std.proofs.Common.{length}
use native.Mathlib.Nat.{sub-zero}
use Rattle.std.proofs.lemmas.Result.{err_from_is_err_and}
use Rattle.machine.specs.Constants.{machine_words}
use Rattle.rows.specs.First.Laws.{loop_stops, loop_on, loop_ends}
use Rattle.rows.proofs.Chunks.{row_of}
use Rattle.tables.proofs.check_machines.Goals as goal

pub loop-row-init : goal.loop-row-init
loop-row-init c = rw (sub-zero (length c.args.machines.now))

pub returns-in_err-check_machine : goal.returns-in_err-check_machine
returns-in_err-check_machine c =
    let p = err_from_is_err_and c.from_residual.result c.from_residual.ensures.1 in
    let h = c.loop-row-test.true in
    rw (p.1, p.2)
    (loop_stops _ _ _ c.loop-row.invariant h _ (rw (row_of machine_words c.args.machines.now c.told-machines c.loop-row.row-index h) c.in_err-check_machine.ensures))

pub loop-row-preserved : goal.loop-row-preserved
loop-row-preserved c =
    let h = c.loop-row-test.true in
    loop_on _ _ _ c.loop-row.invariant h (rw (row_of machine_words c.args.machines.now c.told-machines c.loop-row.row-index h) c.in_ok-check_machine.ensures)

pub returns : goal.returns
returns c = loop_ends _ _ _ c.loop-row.invariant c.loop-row-test.false
