-- `sheet::reading::read_rows` meets its contract: one case for each refusal, and one for the rows.
use Rattle.std.proofs.Common.{length, sym}
use Rattle.std.proofs.lemmas.Result.{err_from_is_err_and}
use Rattle.sheet.proofs.Answered.{fits, passed, malformed, no_room, read_rows}
use Rattle.sheet.proofs.reading.read_rows.Goals as goal

pub returns-in_err-rows : goal.returns-in_err-rows
returns-in_err-rows c =
    let a = c.args in
    let p = err_from_is_err_and c.from_residual.result c.from_residual.ensures.1 in
    rw (p.1, p.2) (malformed a.sheet.now a.machines.now a.states.now a.transitions.now _ c.in_err-rows.ensures.is)

pub returns-then-not-has_room : goal.returns-then-not-has_room
returns-then-not-has_room c =
    let a = c.args in
    no_room a.sheet.now a.machines.now a.states.now a.transitions.now c.in_ok-rows.rows c.in_ok-rows.ensures.is (sym c.if-not-has_room.ensures)

pub put_tables-requires : goal.put_tables-requires
put_tables-requires c =
    let a = c.args in
    let r = c.in_ok-rows in
    let k = fits r.rows (length a.machines.now) (length a.states.now) (length a.transitions.now) (sym c.if-not-has_room.ensures) in
    ((passed a.sheet.now a.machines.now a.states.now a.transitions.now r.rows r.ensures.is).1, r.ensures.inside, k.0, k.1, k.2)

pub returns : goal.returns
returns c =
    let a = c.args in
    let r = c.in_ok-rows in
    let p = c.put_tables.ensures in
    read_rows a.sheet.now a.machines.now a.states.now a.transitions.now r.rows _ _ _ r.ensures.is (sym c.if-not-has_room.ensures) p.0 p.1 p.2
