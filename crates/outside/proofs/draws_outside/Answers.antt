-- `draws_outside` meets its contract: machine by machine. Assumes nothing.
use Rattle.std.proofs.Common.{◌∙◌, rules}
use borrow.Author.Tests.{tests}
use Rattle.std.proofs.lemmas.Iterator.{YieldsList-from_slice}
use Rattle.std.proofs.lemmas.Iterator.Search.{any_from_yields_List}
use Rattle.outside.specs.Outside.{machines_outside}
use Rattle.outside.proofs.Any.{all_machines}
use Rattle.outside.proofs.draws_outside.Goals as goal

pub returns : goal.returns
returns c =
    any_from_yields_List (λ machine. machines_outside machine c.args.t.now.states.now 1) _ _ _ c.any.ensures.ran
    (YieldsList-from_slice _ c.iter.ensures.rest) (λ x b q k. search (rules, tests))
    ∙ all_machines _ _ _ c.as_chunks.ensures.front
