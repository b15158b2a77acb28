use Rattle.std.proofs.Common.{◌≡◌, ◌+◌, ◌-◌}
use Rattle.std.specs.Float.{binary32}
use Rattle.std.specs.Float.Ieee.{of_bits}
use Rattle.machine.specs.State.{walk}
use Rattle.machine.proofs.state.sample_state.Given as goal

-- the whole walk is what is left of it, from row i on with the sum so far
abbrev pub invariant-loop-i : goal.invariant-loop-i
invariant-loop-i l =
    walk l.transitions l.first l.count (of_bits binary32 0) l.draw ≡ walk l.transitions l.i (l.first + l.count - l.i) l.sum l.draw
