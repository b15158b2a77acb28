use Rattle.std.proofs.Common.{◌≡◌}
use Rattle.std.specs.Prelude.{drop}
use Rattle.machine.specs.Words.{word_value}
use Rattle.machine.proofs.source.WordsDraws.uniform.Given as goal

-- what the whole search gives is what it gives from word i on
abbrev pub invariant-loop-i : goal.invariant-loop-i
invariant-loop-i l =
    word_value l.low l.high (drop l.at.value_at l.self.words.now) l.at.chance_at l.at.value_at
    ≡ word_value l.low l.high (drop l.i l.self.words.now) l.at.chance_at l.i
