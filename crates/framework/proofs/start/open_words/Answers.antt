-- `open_words` meets its contract: the fractions and the tables, then 24.
use Rattle.std.specs.Prelude.{◌≡◌}
use Rattle.std.proofs.Common.{rules}
use Rattle.refusal.specs.Refusal.{number, number_positive}
use Rattle.machine.specs.Tables.{lent_tables}
use Rattle.machine.specs.Words.{words}
use Rattle.steps.specs.Framework.{open_refusal}
use Rattle.steps.specs.Words.{opening_on}
use Rattle.framework.proofs.Checked.{opens_few, opening_stops, opening_runs, never_outside}
use Rattle.framework.proofs.start.open_words.Goals as goal

pub returns-in_err-check_opening : goal.returns-in_err-check_opening
unfolding opening_on
returns-in_err-check_opening c =
    let a = c.args in
    let T = lent_tables a.t.now in
    let why = c.in_err-check_opening.field-0.0 in
    let refusal : open_refusal T a.max_padding_frac a.max_blocking_frac ≡ number why = search rules in
    let l = opening_stops T a.max_padding_frac a.max_blocking_frac a.time (words a.words.now) refusal (number_positive why) in
    let m = never_outside T {n = number why} (number_positive why) in
    search rules

pub returns-then-draws_outside : goal.returns-then-draws_outside
unfolding opening_on
returns-then-draws_outside c =
    let a = c.args in
    let T = lent_tables a.t.now in
    let passed : open_refusal T a.max_padding_frac a.max_blocking_frac ≡ 0 = search rules in
    search rules

pub open_machines-requires : goal.open_machines-requires
open_machines-requires c =
    let a = c.args in
    let passed : open_refusal (lent_tables a.t.now) a.max_padding_frac a.max_blocking_frac ≡ 0 = search rules in
    opens_few (lent_tables a.t.now) a.max_padding_frac a.max_blocking_frac passed

pub returns : goal.returns
unfolding opening_on
returns c =
    let a = c.args in
    let T = lent_tables a.t.now in
    let passed : open_refusal T a.max_padding_frac a.max_blocking_frac ≡ 0 = search rules in
    let l = opening_runs T a.max_padding_frac a.max_blocking_frac a.time (words a.words.now) passed in
    search rules
