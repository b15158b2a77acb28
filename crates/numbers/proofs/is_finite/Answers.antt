-- `numbers::is_finite` meets its contract: it is that of the standard library's method. Assumes nothing.
use Rattle.std.proofs.Common.{◌≡◌, refl, ◌∙◌}
use Rattle.std.specs.Float.{float_is_finite}
use lib.Ieee.{Float, nan, inf, fin}
use Rattle.numbers.specs.Finite.{is_finite}
use Rattle.numbers.proofs.is_finite.Goals as goal

same_finite : (x : Float) → float_is_finite x ≡ is_finite x
unfolding float_is_finite is_finite
same_finite nan = refl
same_finite (inf s) = refl
same_finite (fin s m e) = refl

pub returns : goal.returns
returns c = c.is_finite.ensures.value ∙ same_finite c.args.x
