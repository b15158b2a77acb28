use Rattle.std.proofs.Common.{◌≡◌, ◌*◌}
use Rattle.columns.proofs.Numbers.{stand}
use Rattle.columns.proofs.put_numbers.Given as goal

abbrev pub invariant-loop-n : goal.invariant-loop-n
invariant-loop-n l = (l.at ≡ l.width * l.n-index) × (l.line ≡ stand l.width l.numbers l.initial.line l.n-index l.at)
