-- `machine_outside` meets its contract: the machine's own part, then its states. Assumes nothing.
use Rattle.std.proofs.Common.{◌∙◌, rules}
use borrow.Author.Tests.{tests}
use Rattle.std.proofs.lemmas.Iterator.{YieldsList-from_slice}
use Rattle.std.proofs.lemmas.Iterator.Search.{any_from_yields_List}
use Rattle.outside.specs.Outside.{state_outside}
use Rattle.outside.proofs.Any.{one_machine}
use Rattle.outside.proofs.machine_outside.Goals as goal

pub returns : goal.returns
returns c =
    any_from_yields_List state_outside _ _ _ c.any.ensures.ran (YieldsList-from_slice _ c.iter.ensures.rest) (λ x b q k. search (rules, tests))
    ∙ one_machine _ _ _ (rw c.state_rows-own.ensures at c.as_chunks.ensures.front)
