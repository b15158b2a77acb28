-- `run_words` meets its contract: the tables, then 24.
use Rattle.std.specs.Prelude.{◌≡◌}
use Rattle.std.proofs.Common.{rules}
use Rattle.refusal.specs.Refusal.{number, number_positive}
use Rattle.machine.specs.Tables.{lent_tables}
use Rattle.machine.specs.Words.{words}
use Rattle.tables.specs.Machine.{tables_refusal}
use Rattle.steps.specs.Words.{batch_on}
use Rattle.framework.proofs.Checked.{tables_stop, never_outside}
use Rattle.framework.proofs.run_words.Goals as goal

pub returns-in_err-check_tables : goal.returns-in_err-check_tables
unfolding batch_on
returns-in_err-check_tables c =
    let a = c.args in
    let T = lent_tables a.t.now in
    let why = c.in_err-check_tables.field-0.0 in
    let refusal : tables_refusal T.machines T.states T.transitions ≡ number why = search rules in
    let l = tables_stop a.fw.now T a.events.now a.x.now.framework.current_time (words a.words.now) a.out.now refusal (number_positive why) in
    let m = never_outside T {n = number why} (number_positive why) in
    search rules

pub returns-then-draws_outside : goal.returns-then-draws_outside
unfolding batch_on
returns-then-draws_outside c =
    let a = c.args in
    let T = lent_tables a.t.now in
    let passed : tables_refusal T.machines T.states T.transitions ≡ 0 = search rules in
    search rules

pub returns : goal.returns
unfolding batch_on
returns c =
    let a = c.args in
    let T = lent_tables a.t.now in
    let passed : tables_refusal T.machines T.states T.transitions ≡ 0 = search rules in
    search rules
