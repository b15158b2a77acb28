-- `open_machines` meets its contract, a machine at a time.
use Rattle.std.proofs.Common.{rules, arith}
use Rattle.machine.specs.Tables.{lent_tables}
use Rattle.steps.specs.Framework.{open_turn, rows_in}
use Rattle.events.proofs.Turns.{each_on, each_end}
use Rattle.framework.proofs.Opens.{opens}
use Rattle.framework.proofs.start.open_machines.Goals as goal

pub loop-m-preserved : goal.loop-m-preserved
loop-m-preserved g c =
    let a = c.args in
    let l = c.loop-m in
    let turn = open_turn (lent_tables a.t.now) (g.D.Draws.source a.draws.now) in
    let on = each_on turn (rows_in a.t.now.machines.now) l.m (opens l.f l.at) c.loop-m-test.true in
    (search rules, search rules)

pub returns-in_err-opened : goal.returns-in_err-opened
returns-in_err-opened g c =
    let a = c.args in
    let l = c.loop-m in
    let turn = open_turn (lent_tables a.t.now) (g.D.Draws.source a.draws.now) in
    let on = each_on turn (rows_in a.t.now.machines.now) l.m (opens l.f l.at) c.loop-m-test.true in
    search rules

pub returns : goal.returns
returns g c =
    let a = c.args in
    let l = c.loop-m in
    let turn = open_turn (lent_tables a.t.now) (g.D.Draws.source a.draws.now) in
    let none = each_end turn (rows_in a.t.now.machines.now) l.m (opens l.f l.at) (omega (arith, c.loop-m-test.false)) in
    search rules
