-- `Transitions::sum_of_any_one` meets its contract: no target stands before the first. Assumes nothing.
use Rattle.std.proofs.lemmas.Result.{err_from_is_err_and}
use Rattle.rows.proofs.Rows.{one_stops}
use Rattle.rows.proofs.Transitions.sum_of_any_one.Goals as goal

pub returns-in_err-check_in_order : goal.returns-in_err-check_in_order
returns-in_err-check_in_order c =
    let p = err_from_is_err_and c.from_residual.result c.from_residual.ensures.1 in
    rw (p.1, p.2) (one_stops _ _ c.told-only _ c.in_err-check_in_order.ensures)
