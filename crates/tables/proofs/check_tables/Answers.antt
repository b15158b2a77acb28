-- `check_tables` meets its contract: the form, then machine by machine. Assumes nothing.
use Rattle.std.proofs.Common.{sym, ◌∙◌}
use Rattle.tables.specs.Machine.{tables_refusal}
use Rattle.tables.proofs.Parts.{all_machines}
use Rattle.tables.proofs.check_tables.Goals as goal

pub returns-then-not-whole_tables : goal.returns-then-not-whole_tables
unfolding tables_refusal
returns-then-not-whole_tables c = rw (sym c.whole_tables.ensures ∙ c.if-not-whole_tables.true)

pub returns : goal.returns
unfolding tables_refusal
returns c =
    let is = sym c.whole_tables.ensures ∙ c.if-not-whole_tables.false in
    c.check_machines.ensures ∙ rw is (all_machines _ _ _ _ c.as_chunks.ensures.front is)
