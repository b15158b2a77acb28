-- `numbers::round_half_away` meets its contract: the rounded float is whole, and a cut leaves it.
-- Assumes nothing.
use Rattle.std.proofs.Common.{ap, ◌∙◌}
use lib.Ieee.{fits, binary64, to_unsigned}
use denote.Floats.{passes}
use Rattle.numbers.proofs.Rounded.{rounded}
use Rattle.numbers.proofs.round_half_away.Goals as goal

pub returns : goal.returns
returns c =
    c.cut.ensures ∙ ap (to_unsigned 64) c.round.ensures
    ∙ rounded c.args.x (passes (fits binary64 c.args.x) c.well_formed.0.1)
