-- `linkrun::print` meets its contract: a refused input's text is one line, and an accepted one's is its run's.
use Rattle.std.proofs.Common.{◌∙◌, refl, sym, ap, [], arith}
use Rattle.refusal.specs.Refusal.{number}
use Rattle.stream.proofs.Loaded.{taken_up}
use Rattle.run.specs.Run.{input_text, run_text}
use Rattle.linkrun.proofs.Parts.{refused, first_is, behind_first, input_refused, input_accepted}
use Rattle.linkrun.proofs.print.Goals as goal

pub slice_bounds-words-end : goal.slice_bounds-words-end
slice_bounds-words-end c =
    let l = c.in-Ok.ensures in
    let t = taken_up c.args.input.now _ _ (sym l.answer) l.words in
    omega (arith, t.3)

pub run-requires-clause-text : goal.run-requires-clause-text
run-requires-clause-text c =
    let l = c.in-Ok.ensures in
    let t = taken_up c.args.input.now _ _ (sym l.answer) l.words in
    ap input_text c.nothing-handed.ensures.1
    ∙ input_accepted c.args.input.now 0 l.answer refl
    ∙ ap run_text (sym t.0 ∙ sym c.accepted.ensures)

pub first_line-requires-clause-next : goal.first_line-requires-clause-next
first_line-requires-clause-next c =
    let r = c.in-Err.refusal in
    let left = ap input_text c.nothing-handed.ensures.1 ∙ input_refused c.args.input.now (number r) c.in-Err.ensures.answer (refused r) in
    rw c.into.ensures (first_is (number r) [] _ left)

pub returns-in-Err : goal.returns-in-Err
returns-in-Err c =
    let r = c.in-Err.refusal in
    let left = input_refused c.args.input.now (number r) c.in-Err.ensures.answer (refused r) in
    behind_first (number r) [] _ left _ c.first_line.ensures.further
