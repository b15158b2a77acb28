-- `sample_limit` meets its contract: a rounded number is at most the largest u64. Assumes nothing.
use Rattle.std.proofs.Common.{sym, ◌∙◌}
use Rattle.dists.specs.Dist.{sample, dist_at}
use Rattle.machine.specs.Constants.{limit}
use Rattle.samples.specs.Action.{sample_limit}
use Rattle.samples.proofs.Whole.{rounded_fits}
use Rattle.samples.proofs.action.sample_limit.Goals as goal

pub returns-then-has_limit : goal.returns-then-has_limit
unfolding sample_limit
returns-then-has_limit g c =
    let a = c.args in
    rw (sym c.has_limit.ensures ∙ c.if-has_limit.true)
    (c.sample_rounded.ensures ∙ rounded_fits (sample (dist_at a.row.now limit) (g.D.Draws.source a.draws.now).values a.at))
