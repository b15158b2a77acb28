-- `process_events` meets its contract, an event at a time.
use Rattle.std.specs.Prelude.{◌/◌, length}
use Rattle.std.proofs.Common.{rules, arith}
use Rattle.machine.specs.Tables.{lent_tables}
use Rattle.steps.specs.Events.{event_turn}
use Rattle.events.proofs.Counts.{kind_fits}
use Rattle.events.proofs.Turns.{each_on, each_end}
use Rattle.events.proofs.process_events.Goals as goal

pub event_turn-requires : goal.event_turn-requires
event_turn-requires g c =
    kind_fits c.args.events.now c.loop-i.i (length c.args.events.now / 2) c.loop-i-test.true c.requires

pub loop-i-preserved : goal.loop-i-preserved
loop-i-preserved g c =
    let a = c.args in
    let l = c.loop-i in
    let turn = event_turn (lent_tables a.t.now) (g.D.Draws.source a.draws.now) a.events.now in
    let on = each_on turn (length a.events.now / 2) l.i l.x c.loop-i-test.true in
    (search rules, search rules)

pub returns-in_err-event_turn-clause-is : goal.returns-in_err-event_turn-clause-is
returns-in_err-event_turn-clause-is g c =
    let a = c.args in
    let l = c.loop-i in
    let turn = event_turn (lent_tables a.t.now) (g.D.Draws.source a.draws.now) a.events.now in
    let on = each_on turn (length a.events.now / 2) l.i l.x c.loop-i-test.true in
    search rules

pub returns-clause-is : goal.returns-clause-is
returns-clause-is g c =
    let a = c.args in
    let l = c.loop-i in
    let turn = event_turn (lent_tables a.t.now) (g.D.Draws.source a.draws.now) a.events.now in
    let none = each_end turn (length a.events.now / 2) l.i l.x (omega (arith, c.loop-i-test.false)) in
    search rules
