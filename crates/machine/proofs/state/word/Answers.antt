-- `word` meets its contract: past a row's end `get_or` is its default. Assumes nothing.
use mathlib.Core.Path.{sym}
use lib.ListN.{get_or-eq_default}
use Rattle.machine.proofs.state.word.Goals as goal

pub returns : goal.returns
returns c =
    let a = c.args in
    sym (get_or-eq_default a.row.now 0 {n = a.k} c.if-k-row.false)
