-- `Marks::seen` meets its contract: the target's mark is read, and then set. Assumes nothing.
use Rattle.std.proofs.Common.{arith}
use Rattle.rows.proofs.Targets.{meets}
use Rattle.rows.proofs.marks.MarksSeen.seen.Goals as goal

pub returns : goal.returns
returns g c here =
    let kept = c.requires.kept in
    let m = c.meet.ensures in
    let next =
    meets _ _ _ _ _ _ _ c.told-row c.requires.inside kept.2 c.mark_of.ensures.is (omega (arith, kept.1, c.mark_of.ensures.within)) m.met m.more here in
    (next.0, (kept.0, kept.1, next.1))
