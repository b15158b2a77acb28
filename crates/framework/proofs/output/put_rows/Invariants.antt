use Prim.Native.Nat.{◌*◌, ◌-◌, ◌≤◌}
use mathlib.Core.Path.{◌≡◌}
use lib.ListN.{length}
use Rattle.steps.specs.Framework.{action_rows, written}
use Rattle.framework.proofs.output.put_rows.Given as goal

abbrev pub invariant-loop-m : goal.invariant-loop-m
invariant-loop-m l =
    (l.m ≤ l.count) × (l.at ≡ length (action_rows l.actions l.m)) × (l.at ≤ 6 * l.m) ×
    (length l.out ≡ length l.initial.out) × (l.out ≡ written (action_rows l.actions l.m) l.initial.out)

abbrev pub decreases-loop-m : goal.decreases-loop-m
decreases-loop-m l = l.count - l.m
