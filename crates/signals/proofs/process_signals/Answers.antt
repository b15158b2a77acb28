-- `process_signals` meets its contract, a machine at a time, and the machine left out at last.
use Rattle.std.proofs.Common.{rules, arith}
use Rattle.machine.specs.Tables.{lent_tables}
use Rattle.steps.specs.Events.{signal_turn, signals}
use Rattle.events.proofs.Turns.{each_on, each_end}
use Rattle.signals.proofs.process_signals.Goals as goal

pub returns-then-taken-eq0-clause-is : goal.returns-then-taken-eq0-clause-is
unfolding signals
returns-then-taken-eq0-clause-is g c = search rules

pub loop-m-preserved : goal.loop-m-preserved
loop-m-preserved g c =
    let a = c.args in
    let l = c.loop-m in
    let turn = signal_turn (lent_tables a.t.now) (g.D.Draws.source a.draws.now) a.x.now.shared.signal_pending in
    let on = each_on turn c.smaller-m-end.result l.m l.x c.loop-m-test.true in
    (search rules, search rules)

pub returns-in_err-signal_turn-clause-is : goal.returns-in_err-signal_turn-clause-is
unfolding signals
returns-in_err-signal_turn-clause-is g c =
    let a = c.args in
    let l = c.loop-m in
    let turn = signal_turn (lent_tables a.t.now) (g.D.Draws.source a.draws.now) a.x.now.shared.signal_pending in
    let on = each_on turn c.smaller-m-end.result l.m l.x c.loop-m-test.true in
    search rules

pub returns-clause-is : goal.returns-clause-is
unfolding signals
returns-clause-is g c =
    let a = c.args in
    let l = c.loop-m in
    let turn = signal_turn (lent_tables a.t.now) (g.D.Draws.source a.draws.now) a.x.now.shared.signal_pending in
    let none = each_end turn c.smaller-m-end.result l.m l.x (omega (arith, c.loop-m-test.false)) in
    search rules
