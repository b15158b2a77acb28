-- `replay::replay_calls`: before each turn the place is that of the next call.
use Rattle.std.proofs.Common.{◌≡◌}
use Rattle.stream.specs.Stream.{call_at}
use Rattle.replay.proofs.replay_calls.Given as goal

abbrev pub invariant-loop-i : goal.invariant-loop-i
invariant-loop-i l = l.at ≡ call_at l.words l.i
