-- `state_rows` meets its contract: start and end, cut at the table's length, give the part that was
-- asked for. Assumes nothing.
use Prim.Native.Nat.{◌*◌}
use native.Mathlib.Nat.{add-sub_cancel_left}
use Rattle.machine.specs.Constants.{state_words}
use Rattle.machine.specs.State.{rows_of}
use Rattle.machine.proofs.Rows.{part_cut}
use Rattle.machine.proofs.state.state_rows.Goals as goal

pub returns : goal.returns
unfolding rows_of
returns c =
    let a = c.args in
    let start = c.state_words-start.ensures.is in
    let words = c.state_words.ensures.is in
    simp (add-sub_cancel_left, words, start)
    (part_cut a.states.now (a.first * state_words) (a.count * state_words))
