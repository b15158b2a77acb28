use Prim.Native.Nat.{◌≤◌}
use mathlib.Core.Path.{◌≡◌}
use Rattle.columns.specs.Parts.{digits_in}
use Rattle.columns.proofs.put_digits.Given as goal

abbrev pub invariant-loop-rest : goal.invariant-loop-rest
invariant-loop-rest l =
    (l.at ≤ l.i) × (l.i ≤ l.end) × (digits_in l.at l.i l.rest l.line ≡ digits_in l.at l.end l.n l.initial.line)

abbrev pub decreases-loop-rest : goal.decreases-loop-rest
decreases-loop-rest l = l.i
