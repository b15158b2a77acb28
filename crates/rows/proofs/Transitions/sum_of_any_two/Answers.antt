-- `Transitions::sum_of_any_two` meets its contract: one target stands before the second. Assumes nothing.
use Rattle.std.proofs.lemmas.Result.{err_from_is_err_and}
use Rattle.rows.proofs.Rows.{first_stops, last_stops}
use Rattle.rows.proofs.Transitions.sum_of_any_two.Goals as goal

pub returns-in_err-check_in_order : goal.returns-in_err-check_in_order
returns-in_err-check_in_order c =
    let p = err_from_is_err_and c.from_residual.result c.from_residual.ensures.1 in
    rw (p.1, p.2) (first_stops _ _ _ c.told-first c.told-last _ c.in_err-check_in_order.ensures)

pub returns-in_err-check_in_order-2 : goal.returns-in_err-check_in_order-2
returns-in_err-check_in_order-2 c =
    let p = err_from_is_err_and c.from_residual-in_err-check_in_order-2.result c.from_residual-in_err-check_in_order-2.ensures.1 in
    rw (p.1, p.2)
    (last_stops _ _ _ c.told-first c.told-last c.in_ok-check_in_order.ensures _ c.in_err-check_in_order-2.ensures)
