-- `LookBack::seen` meets its contract: the earlier transitions are looked through. Assumes nothing.
use borrow.Author.Rules.{rules}
use borrow.Author.Tests.{tests}
use Rattle.std.proofs.lemmas.Iterator.{YieldsList-from_slice}
use Rattle.std.proofs.lemmas.Iterator.Search.{any_from_yields_List}
use Rattle.rows.proofs.Targets.{has, looked_back}
use Rattle.rows.proofs.seen.LookBackSeen.seen.Goals as goal

pub returns : goal.returns
returns c here = (
  looked_back c.args.row.now c.args.i c.told-row c.requires.inside _
      (any_from_yields_List (has _) _ _ _ c.any.ensures.ran (YieldsList-from_slice _ c.iter.ensures.rest) (λ x b q k. search (rules, tests))),
  tt,
)
