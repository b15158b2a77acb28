-- Whether a machine's turn changes its counts alone.
use Rattle.std.specs.Prelude.{ℕ}
use Rattle.std.specs.Prelude.{Option, Some, None}
use Rattle.std.specs.Prelude.{Bool, true, false}

-- no next state was chosen, and no limit falls
unfoldable pub only_counts : Bool → Option ℕ → Bool
only_counts true next = false
only_counts false (Some next) = false
only_counts false None = true
