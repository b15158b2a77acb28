-- `run_passed` meets its contract: 18 to 20 in order, then the run.
use Rattle.std.specs.Prelude.{◌≡◌, length}
use Rattle.std.proofs.Common.{rules}
use Rattle.refusal.specs.Refusal.{number, number_positive}
use Rattle.machine.specs.Tables.{lent_tables}
use Rattle.framework.proofs.Checked.{few_machines, rest, rest_passes, rest_stops, runs}
use Rattle.framework.proofs.run_passed.Goals as goal

pub check_batch-requires : goal.check_batch-requires
check_batch-requires g c = few_machines _ _ _ c.requires.passed

pub returns-in_err-check_batch : goal.returns-in_err-check_batch
returns-in_err-check_batch g c =
    let a = c.args in
    let T = lent_tables a.t.now in
    let why = c.in_err-check_batch.field-0.0 in
    let refusal : rest a.fw.now T a.events.now (length a.out.now) ≡ number why = search rules in
    let l = rest_stops a.fw.now T a.events.now a.x.now.framework.current_time (g.D.Draws.source a.draws.now) a.out.now c.requires.passed refusal (number_positive why) in
    search rules

pub trigger_events-requires : goal.trigger_events-requires
trigger_events-requires g c =
    let a = c.args in
    let passed : rest a.fw.now (lent_tables a.t.now) a.events.now (length a.out.now) ≡ 0 = search rules in
    (rest_passes a.fw.now (lent_tables a.t.now) a.events.now (length a.out.now) passed).0

pub returns-in_err-trigger_events : goal.returns-in_err-trigger_events
returns-in_err-trigger_events g c =
    let a = c.args in
    let T = lent_tables a.t.now in
    let passed : rest a.fw.now T a.events.now (length a.out.now) ≡ 0 = search rules in
    let l = runs a.fw.now T a.events.now a.x.now.framework.current_time (g.D.Draws.source a.draws.now) a.out.now c.requires.passed passed in
    search rules

pub accepted-requires : goal.accepted-requires
accepted-requires g c =
    let a = c.args in
    let passed : rest a.fw.now (lent_tables a.t.now) a.events.now (length a.out.now) ≡ 0 = search rules in
    let room = (rest_passes a.fw.now (lent_tables a.t.now) a.events.now (length a.out.now) passed).1 in
    search rules

pub returns : goal.returns
returns g c =
    let a = c.args in
    let T = lent_tables a.t.now in
    let passed : rest a.fw.now T a.events.now (length a.out.now) ≡ 0 = search rules in
    let l = runs a.fw.now T a.events.now a.x.now.framework.current_time (g.D.Draws.source a.draws.now) a.out.now c.requires.passed passed in
    search rules
