-- counter.rs: a counter of seven words (operation, copy, distribution), and the value that it changes by.
use Rattle.std.specs.Prelude.{ℕ, ◌+◌, List, cond, get_or, eqb, Result}
use Rattle.std.specs.Float.Ieee.{to_unsigned}
use Rattle.machine.specs.Source.{Values}
use Rattle.machine.specs.declared.source.Place.{Place}
use Rattle.dists.specs.Dist.{dist_at, sample, got_whole, whole_of}
use Rattle.machine.specs.declared.source.Draw.{Draw}

-- Counter::sample_value of the counter that begins at word k: cut, not rounded, capped at the largest u64; no distribution gives 1.
unfoldable pub sample_value : List ℕ → ℕ → Values Place → Place → Result (Draw ℕ) ℕ
sample_value row k values at =
    cond (eqb (get_or row (k + 2) 0) 0) (got_whole 1 at) (whole_of (to_unsigned 64) (sample (dist_at row (k + 2)) values at))
