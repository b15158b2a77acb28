-- `Transitions::check_pair` meets its contract: the row is a part of the table. Assumes nothing.
use Rattle.std.proofs.Common.{◌∙◌, arith}
use Rattle.rows.proofs.Chunks.{part_of}
use Rattle.rows.proofs.Rows.{no_row, beyond, within}
use Rattle.rows.proofs.Transitions.check_pair.Goals.{then-rows-count-via-then-rows-count, then-rows-count-via-else-rows-count+then-rows-count-2}
use Rattle.rows.proofs.Transitions.check_pair.Goals as goal

pub returns-then-count-eq0 : goal.returns-then-count-eq0
returns-then-count-eq0 c = no_row _ _ _ _ c.if-count-eq0.true

pub returns-then-rows-count : goal.returns-then-rows-count
returns-then-rows-count c =
    beyond _ _ _ _ c.if-count-eq0.false
    (elim c.then-rows-count.branch [
      | then-rows-count-via-then-rows-count w ↦ omega (arith, w.if-rows-count.true, c.as_chunks.ensures.front_len)
      | then-rows-count-via-else-rows-count+then-rows-count-2 w ↦
          omega (arith, w.if-rows-count.false, w.if-rows-count-2.true, c.as_chunks.ensures.front_len)
    ])

pub returns : goal.returns
returns c =
    let e =
    part_of 2 c.args.first c.args.count c.args.self.now.words.now _ c.as_chunks.ensures.front
    (omega (arith, c.if-rows-count.false, c.if-rows-count-2.false, c.as_chunks.ensures.front_len)) in
    c.check_row.ensures ∙ within _ _ _ _ c.if-count-eq0.false e.0 _ _ e.2 e.1
