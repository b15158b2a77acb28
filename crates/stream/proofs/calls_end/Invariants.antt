use Rattle.std.proofs.Common.{◌≡◌}
use Rattle.stream.specs.Stream.{call_at}
use Rattle.stream.specs.Within.{within}
use Rattle.stream.proofs.calls_end.Given as goal

abbrev pub invariant-loop : goal.invariant-loop
invariant-loop l = l.at ≡ within l.words (call_at l.words l.counter)
