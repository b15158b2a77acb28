-- `columns_link::columns_put` meets its contract.
use Rattle.columns_link.proofs.Cases.{none}
use Rattle.columns_link.proofs.columns_put.Goals as goal

pub returns-then-width-eq0 : goal.returns-then-width-eq0
returns-then-width-eq0 c =
    let a = c.args in
    none a.width a.numbers.now a.text.now c.if-width-eq0.true
