use Prim.Native.Nat.{◌^◌, ◌<◌, ◌+◌}
use mathlib.Core.Path.{◌≡◌}
use lib.ListN.{take}
use Rattle.columns.proofs.ByColumn.{rests}
use Rattle.cells.proofs.cell_of.Given as goal

abbrev pub invariant-loop-b : goal.invariant-loop-b
invariant-loop-b l = (l.n < 10 ^ l.b-index) × (take (l.b-index + 1) l.bytes ≡ rests (l.b-index + 1) l.n)
