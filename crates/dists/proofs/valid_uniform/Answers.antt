-- `valid_uniform` meets its contract, at what `is_finite` ensures. Assumes nothing.
use Rattle.dists.specs.Dist.{valid_uniform}
use Rattle.dists.proofs.valid_uniform.Goals as goal

pub returns : goal.returns
unfolding valid_uniform
returns c = rw (c.is_finite.ensures, c.is_finite-2.ensures, c.is_finite-3.ensures)
