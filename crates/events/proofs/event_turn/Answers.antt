-- `event_turn` meets its contract, a machine at a time.
use Rattle.std.specs.Prelude.{◌≡◌, ◌-◌, refl}
use Rattle.std.proofs.Common.{rules, arith}
use Rattle.machine.specs.Tables.{lent_tables}
use Rattle.steps.specs.Events.{machine_turn, process_event, turns_for, num_machines}
use Rattle.events.proofs.Turns.{each_on, each_end}
use Rattle.events.proofs.event_turn.Goals as goal

pub loop-m-init : goal.loop-m-init
loop-m-init g c = (refl, refl)

pub loop-m-preserved : goal.loop-m-preserved
loop-m-preserved g c =
    let a = c.args in
    let l = c.loop-m in
    let turn = machine_turn (lent_tables a.t.now) (g.D.Draws.source a.draws.now) a.kind a.machine c.blocked_for-blocked.result in
    let on = each_on turn c.end_for-end.result l.m l.x c.loop-m-test.true in
    (search rules, search rules)

pub returns-in_err-machine_turn-clause-is : goal.returns-in_err-machine_turn-clause-is
unfolding process_event
returns-in_err-machine_turn-clause-is g c =
    let a = c.args in
    let l = c.loop-m in
    let turn = machine_turn (lent_tables a.t.now) (g.D.Draws.source a.draws.now) a.kind a.machine c.blocked_for-blocked.result in
    let on = each_on turn c.end_for-end.result l.m l.x c.loop-m-test.true in
    let turns : c.end_for-end.result - c.first_for-first.result ≡ turns_for a.kind a.machine (num_machines a.x.now.framework) = search (rules, arith) in
    search rules

pub returns-clause-is : goal.returns-clause-is
unfolding process_event
returns-clause-is g c =
    let a = c.args in
    let l = c.loop-m in
    let turn = machine_turn (lent_tables a.t.now) (g.D.Draws.source a.draws.now) a.kind a.machine c.blocked_for-blocked.result in
    let none = each_end turn c.end_for-end.result l.m l.x (omega (arith, c.loop-m-test.false)) in
    let turns : c.end_for-end.result - c.first_for-first.result ≡ turns_for a.kind a.machine (num_machines a.x.now.framework) = search (rules, arith) in
    search rules
