-- `ended_in` meets its contract, a machine at a time.
use Rattle.std.specs.Prelude.{refl}
use Rattle.std.proofs.Common.{arith}
use Rattle.steps.specs.Framework.{ended_in}
use Rattle.framework.proofs.Ended.{one_more, at_most}
use Rattle.framework.proofs.checks.ended_in.Goals as goal

pub loop-m-init : goal.loop-m-init
unfolding ended_in
loop-m-init c = refl

pub overflow_add-ended : goal.overflow_add-ended
overflow_add-ended c =
    let few = at_most c.args.fw.now.runtime c.loop-m.m c.loop-m.ended c.one_if_ended-ended.result c.loop-m.invariant c.one_if_ended-ended.ensures in
    omega (arith, few, c.loop-m-test.true, c.requires)

pub loop-m-preserved : goal.loop-m-preserved
loop-m-preserved c =
    one_more c.args.fw.now.runtime c.loop-m.m c.loop-m.ended c.one_if_ended-ended.result c.loop-m.invariant c.one_if_ended-ended.ensures
