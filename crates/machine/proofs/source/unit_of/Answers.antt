-- `unit_of` meets its contract: the top 53 bits are below 2 ^ 53, so the cast and the quotient are exact. Assumes nothing.
use native.Mathlib.Omega.{arith}
use lib.Dec.{le→leb}
use lib.Ieee.{in_float}
use Rattle.machine.specs.Words.Laws.{quotient_is_unit}
use Rattle.machine.proofs.source.unit_of.Goals as goal

pub int_to_float-result : goal.int_to_float-result
unfolding in_float
int_to_float-result c = omega (arith, le→leb)

pub returns : goal.returns
returns c = quotient_is_unit c.args.w (omega arith)
