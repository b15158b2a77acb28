-- `sample_state` meets its contract: the walk goes on, stops or ends as the loop does. Assumes nothing.
use Rattle.std.proofs.Common.{sym, ◌+◌, ◌∙◌, arith}
use Rattle.machine.proofs.Walk.{row_within, row_beyond, walk_on, walk_stops, walk_ends}
use Rattle.machine.proofs.state.sample_state.Goals as goal

pub returns-then-rows-start : goal.returns-then-rows-start
returns-then-rows-start c =
    let a = c.args in
    sym (row_beyond a.transitions.now a.first a.count a.draw (omega arith))

pub returns-then-rows-start-2 : goal.returns-then-rows-start-2
returns-then-rows-start-2 c =
    let a = c.args in
    sym (row_beyond a.transitions.now a.first a.count a.draw (omega arith))

pub loop-i-preserved : goal.loop-i-preserved
loop-i-preserved c =
    let a = c.args in
    let l = c.loop-i in
    let p = c.f32_of_word-sum.ensures in
    let more = walk_on a.transitions.now l.i (a.first + a.count) l.sum a.draw in
    l.invariant ∙ rw p (more c.loop-i-test.true (rw p at c.if-draw-sum.false))

pub returns-then-draw-sum : goal.returns-then-draw-sum
returns-then-draw-sum c =
    let a = c.args in
    let l = c.loop-i in
    let p = c.f32_of_word-sum.ensures in
    let whole = row_within a.transitions.now a.first a.count a.draw (omega arith) in
    let found = walk_stops a.transitions.now l.i (a.first + a.count) l.sum a.draw in
    sym (whole ∙ l.invariant ∙ found c.loop-i-test.true (rw p at c.if-draw-sum.true))

pub returns : goal.returns
returns c =
    let a = c.args in
    let l = c.loop-i in
    let whole = row_within a.transitions.now a.first a.count a.draw (omega arith) in
    let none = walk_ends a.transitions.now l.i (a.first + a.count) l.sum a.draw in
    sym (whole ∙ l.invariant ∙ none (omega (arith, c.loop-i-test.false)))
