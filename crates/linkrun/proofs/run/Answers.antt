-- `linkrun::run` meets its contract: its line is the first part of the run's text, and the calls print the rest.
use Rattle.std.proofs.Common.{◌∙◌, [], arith}
use Rattle.linkrun.proofs.Parts.{first_is, behind_first, opens, opens_refused, opens_accepted, at_first}
use Rattle.linkrun.proofs.run.Goals as goal

pub first_line-requires-clause-next : goal.first_line-requires-clause-next
first_line-requires-clause-next c =
    let o = c.start-started in
    first_is o.result.refusal _ _ (c.requires.text ∙ opens c.args.input.words.now o.result o.ensures.is)

pub calls-requires-clause-stands : goal.calls-requires-clause-stands
calls-requires-clause-stands c =
    let o = c.start-started in
    let s = at_first c.args.input.words.now o.result o.ensures.is in
    (s.0, omega (arith, s.1), o.ensures.within)

pub calls-requires-clause-left : goal.calls-requires-clause-left
calls-requires-clause-left c =
    let o = c.start-started in
    let h = c.first_line.ensures in
    let left = c.requires.text ∙ opens_accepted c.args.input.words.now o.result o.ensures.is c.if-started-eq0.true in
    (omega (arith, h.further), rw h.same (behind_first o.result.refusal _ _ left _ h.further))

pub returns-else-started-eq0 : goal.returns-else-started-eq0
returns-else-started-eq0 c =
    let o = c.start-started in
    let left = c.requires.text ∙ opens_refused c.args.input.words.now o.result o.ensures.is c.if-started-eq0.false in
    behind_first o.result.refusal [] _ left _ c.first_line.ensures.further
