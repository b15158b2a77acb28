-- `Transitions::sum_of_each` meets its contract. The loop's invariant: what is kept is that of the transitions before i, and the answer is
-- what is left of the check from transition i on. Assumes nothing.
use Rattle.std.proofs.Common.{sym, ◌∙◌}
use Rattle.std.proofs.lemmas.Result.{err_from_is_err_and}
use Rattle.rows.proofs.Rows.{row_starts, row_ends, turn_stops, turn_has, turn_on}
use Rattle.rows.proofs.Transitions.sum_of_each.Goals as goal

pub loop-i-init : goal.loop-i-init
loop-i-init g c = (c.requires, row_starts _ _ _)

pub returns-in_err-check_transition : goal.returns-in_err-check_transition
returns-in_err-check_transition g c =
    let p = err_from_is_err_and c.from_residual.result c.from_residual.ensures.1 in
    rw (p.1, p.2)
    (turn_stops _ _ _ c.told-row c.loop-i-test.true _ (λ here. (c.seen-seen.ensures here).0) _ _ c.in_err-check_transition.ensures
    ∙ sym c.loop-i.invariant.1)

pub loop-i-preserved : goal.loop-i-preserved
loop-i-preserved g c = (
  (c.seen-seen.ensures
      (turn_has _ _ _ c.told-row c.loop-i-test.true _ (λ here. (c.seen-seen.ensures here).0) c.loop-i.sum c.in_ok-check_transition.ensures)).1,
  rw c.probability-sum.ensures
      (c.loop-i.invariant.1
      ∙ turn_on _ _ _ c.told-row c.loop-i-test.true _ (λ here. (c.seen-seen.ensures here).0) _ c.in_ok-check_transition.ensures),
)

pub returns : goal.returns
returns g c = sym (c.loop-i.invariant.1 ∙ row_ends _ _ _ _ _ c.loop-i-test.false)
