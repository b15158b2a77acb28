-- `state::check_events` meets its contract. The loop's invariant: the answer is the first refusal from this event on. Assumes nothing.
use Rattle.std.proofs.Common.{refl, arith}
use Rattle.std.proofs.lemmas.Result.{err_from_is_err_and}
use Rattle.rows.specs.First.Laws.{loop_stops, loop_on, loop_ends}
use Rattle.tables.specs.State.{events_refusal}
use Rattle.tables.proofs.Parts.{many, first_is, count_is}
use Rattle.tables.proofs.state.check_events.Goals as goal

pub loop-first-init : goal.loop-first-init
unfolding events_refusal
loop-first-init c = refl

pub returns-in_err-check_pair : goal.returns-in_err-check_pair
returns-in_err-check_pair c =
    let p = err_from_is_err_and c.from_residual.result c.from_residual.ensures.1 in
    let h = c.loop-first-test.true in
    let f = first_is c.args.row.now _ c.told-row c.as_chunks.ensures.front _ h in
    let n = count_is c.args.row.now _ c.told-row c.as_chunks.ensures.front _ h in
    rw (p.1, p.2)
    (loop_stops _ _ _ c.loop-first.invariant (omega (arith, many c.args.row.now _ c.told-row c.as_chunks.ensures.front)) _
    (rw (f, n) at c.in_err-check_pair.ensures))

pub loop-first-preserved : goal.loop-first-preserved
loop-first-preserved c =
    let h = c.loop-first-test.true in
    let f = first_is c.args.row.now _ c.told-row c.as_chunks.ensures.front _ h in
    let n = count_is c.args.row.now _ c.told-row c.as_chunks.ensures.front _ h in
    loop_on _ _ _ c.loop-first.invariant (omega (arith, many c.args.row.now _ c.told-row c.as_chunks.ensures.front))
    (rw (f, n) at c.in_ok-check_pair.ensures)

pub returns : goal.returns
returns c = loop_ends _ _ _ c.loop-first.invariant (omega (arith, many c.args.row.now _ c.told-row c.as_chunks.ensures.front))
