-- `rows_within` meets its contract: the rows are a part of the table. Assumes nothing.
use Rattle.std.proofs.Common.{arith}
use Rattle.rows.proofs.Chunks.{part_of}
use Rattle.rows.proofs.rows_within.Goals as goal

pub returns-then-first-last : goal.returns-then-first-last
returns-then-first-last g c =
    part_of g.row.WORDS c.args.first c.args.count c.args.table.now _ c.as_chunks.ensures.front
    (omega (arith, c.in_ok-last.ensures, c.if-first-last.true, c.as_chunks.ensures.front_len))
