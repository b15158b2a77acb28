use Rattle.std.proofs.Common.{◌≡◌, ◌++◌, map, take, drop}
use Rattle.text.proofs.put.Given as goal

abbrev pub invariant-loop-i : goal.invariant-loop-i
invariant-loop-i g l =
    (of : g.row.A.Denot → g.row.T.Denot) → ((item : g.row.A.Denot) (made : g.row.T.Denot) → goal.F-post g l.convert item made → made ≡ of item)
    → l.out ≡ map of (take l.i l.items) ++ drop l.i l.initial.out
