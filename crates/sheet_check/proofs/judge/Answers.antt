-- `sheet_check::judge` meets its contract: the rows read lie inside the tables.
use Rattle.std.proofs.Common.{sym, ◌∙◌}
use lib.Seq.{length-take-le}
use Rattle.sheet_check.proofs.Judged.{machines_inside, states_inside, transitions_inside, judged}
use Rattle.sheet_check.proofs.judge.Goals as goal

pub slice_bounds-read-end-2 : goal.slice_bounds-read-end-2
slice_bounds-read-end-2 c =
    let a = c.args in
    let e = c.read-r.ensures in
    sym (length-take-le _ _ (machines_inside a.sheet.now a.machines.now a.states.now a.transitions.now _ _ e.0 e.1))

pub slice_bounds-read-end-4 : goal.slice_bounds-read-end-4
slice_bounds-read-end-4 c =
    let a = c.args in
    let e = c.read-r.ensures in
    sym (length-take-le _ _ (states_inside a.sheet.now a.machines.now a.states.now a.transitions.now _ _ e.0 e.2))

pub slice_bounds-read-end-6 : goal.slice_bounds-read-end-6
slice_bounds-read-end-6 c =
    let a = c.args in
    let e = c.read-r.ensures in
    sym (length-take-le _ _ (transitions_inside a.sheet.now a.machines.now a.states.now a.transitions.now _ _ e.0 e.3))

pub returns : goal.returns
returns c =
    let a = c.args in
    let e = c.read-r.ensures in
    judged a.sheet.now a.machines.now a.states.now a.transitions.now _ _ _ _ a.line.now _ _ e.0 e.1 e.2 e.3 (c.number.ensures ∙ c.check_tables.ensures) c.verdict_line.ensures
