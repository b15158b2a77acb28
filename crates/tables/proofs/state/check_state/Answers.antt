-- `state::check_state` meets its contract: the events, then the codes, then the distributions. Assumes nothing.
use Rattle.std.proofs.Common.{sym, ◌∙◌}
use Rattle.std.proofs.lemmas.Result.{err_from_is_err_and}
use Rattle.rows.specs.First.Laws.{refused, former, second}
use Rattle.tables.specs.State.{state_refusal}
use Rattle.tables.proofs.state.check_state.Goals as goal

pub returns-in_err-check_events : goal.returns-in_err-check_events
unfolding state_refusal
returns-in_err-check_events c =
    let p = err_from_is_err_and c.from_residual.result c.from_residual.ensures.1 in
    let e = c.in_err-check_events.ensures in
    rw (p.1, p.2) (e ∙ sym (former _ (λ z. refused _ (e ∙ z))))

pub returns-then-codes_unknown : goal.returns-then-codes_unknown
unfolding state_refusal
returns-then-codes_unknown c = sym (second (sym c.in_ok-check_events.ensures) ∙ rw (sym c.codes_unknown.ensures ∙ c.if-codes_unknown.true))

pub returns-then-dists_invalid : goal.returns-then-dists_invalid
unfolding state_refusal
returns-then-dists_invalid c =
    sym (second (sym c.in_ok-check_events.ensures)
    ∙ rw (sym c.codes_unknown.ensures ∙ c.if-codes_unknown.false, sym c.dists_invalid.ensures ∙ c.if-dists_invalid.true))

pub returns-else-dists_invalid : goal.returns-else-dists_invalid
unfolding state_refusal
returns-else-dists_invalid c =
    sym (second (sym c.in_ok-check_events.ensures)
    ∙ rw (sym c.codes_unknown.ensures ∙ c.if-codes_unknown.false, sym c.dists_invalid.ensures ∙ c.if-dists_invalid.false))
