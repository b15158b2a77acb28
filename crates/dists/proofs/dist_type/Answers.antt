-- `dist_type` meets its contract: the code's tests in their order are those of the definition.
-- Assumes nothing.
use borrow.Author.Tests.{eq-eqb, ne_eqb}
use Rattle.dists.specs.Dist.{dist_type}
use Rattle.dists.proofs.dist_type.Goals as goal

pub returns-then-kind-eq-ABSENT : goal.returns-then-kind-eq-ABSENT
unfolding dist_type
returns-then-kind-eq-ABSENT c = simp (eq-eqb _ _ c.if-kind-eq-ABSENT.true)

pub returns-then-kind-eq-UNIFORM : goal.returns-then-kind-eq-UNIFORM
unfolding dist_type
returns-then-kind-eq-UNIFORM c = simp (ne_eqb _ _ c.if-kind-eq-ABSENT.false, eq-eqb _ _ c.if-kind-eq-UNIFORM.true)

pub returns : goal.returns
unfolding dist_type
returns c = simp (ne_eqb _ _ c.if-kind-eq-ABSENT.false, ne_eqb _ _ c.if-kind-eq-UNIFORM.false)
