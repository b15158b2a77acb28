-- `sheet::reading::form_of` meets its contract: the lines of each kind behind those of the kind before.
use Rattle.sheet.proofs.Formed.{all_lines, more_behind}
use Rattle.sheet.proofs.reading.form_of.Goals as goal

pub returns-then-rest-transitions-clause-is : goal.returns-then-rest-transitions-clause-is
returns-then-rest-transitions-clause-is c =
    let m = c.lines-machines.ensures in
    let s = c.lines-states.ensures in
    let t = c.lines-transitions.ensures in
    more_behind c.args.sheet.now _ _ _ m.is s.is t.is t.inside c.if-rest-transitions.true

pub returns-clause-is : goal.returns-clause-is
returns-clause-is c =
    let m = c.lines-machines.ensures in
    let s = c.lines-states.ensures in
    let t = c.lines-transitions.ensures in
    all_lines c.args.sheet.now _ _ _ m.is s.is t.is t.inside c.if-rest-transitions.false
