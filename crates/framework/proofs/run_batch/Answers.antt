-- `run_batch` meets its contract: the tables first.
use Rattle.std.specs.Prelude.{◌≡◌}
use Rattle.std.proofs.Common.{rules}
use Rattle.refusal.specs.Refusal.{number, number_positive}
use Rattle.machine.specs.Tables.{lent_tables}
use Rattle.tables.specs.Machine.{tables_refusal}
use Rattle.framework.proofs.Checked.{tables_stop}
use Rattle.framework.proofs.run_batch.Goals as goal

pub returns-in_err-check_tables : goal.returns-in_err-check_tables
returns-in_err-check_tables g c =
    let a = c.args in
    let T = lent_tables a.t.now in
    let why = c.in_err-check_tables.field-0.0 in
    let refusal : tables_refusal T.machines T.states T.transitions ≡ number why = search rules in
    let l = tables_stop a.fw.now T a.events.now a.x.now.framework.current_time (g.D.Draws.source a.draws.now) a.out.now refusal (number_positive why) in
    search rules
