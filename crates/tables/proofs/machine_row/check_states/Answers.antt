-- `machine_row::check_states` meets its contract: the code's tests in their order are the definition's. Assumes nothing.
use Rattle.std.proofs.Common.{◌∙◌, arith}
use Rattle.tables.proofs.Parts.{none_or_many, beyond, within}
use Rattle.tables.proofs.machine_row.check_states.Goals as goal

pub returns-then-n-eq0 : goal.returns-then-n-eq0
returns-then-n-eq0 c = none_or_many _ _ _ _ c.then-n-eq0.either

pub returns-in-Some : goal.returns-in-Some
returns-in-Some c =
    let e = c.in-Some.ensures in
    c.check_each_state.ensures ∙ within _ _ _ _ c.if-n-eq0.false (omega arith) e.0 _ e.2

pub returns-in-None : goal.returns-in-None
returns-in-None c = beyond _ _ _ _ c.if-n-eq0.false (omega arith) c.in-None.ensures
