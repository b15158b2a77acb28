-- Places as the check computes them: one past the end stands for every place beyond it.
use Rattle.std.specs.Prelude.{ℕ, ◌+◌, ◌≤◌, min, List, length}
use Rattle.stream.specs.Stream.{machines_at, states_at, transitions_at, chances_at, values_at, calls_at}
use Rattle.stream.specs.declared.Layout.{Layout}

-- a place, or one past the end
abbrev pub within : List ℕ → ℕ → ℕ
within ws at = min at (length ws + 1)

-- the parts' places so
abbrev pub places_of : List ℕ → Layout
places_of ws = record {
  states = within ws (states_at ws);
  transitions = within ws (transitions_at ws);
  chances = within ws (chances_at ws);
  values = within ws (values_at ws);
  calls = within ws (calls_at ws);
}

-- the parts' places stand behind the header, in their order, and none beyond the end
pub record Ordered (l : Layout) (end : ℕ) : Type 0 where
  pub header : machines_at ≤ l.states
  pub machines : l.states ≤ l.transitions
  pub states : l.transitions ≤ l.chances
  pub transitions : l.chances ≤ l.values
  pub chances : l.values ≤ l.calls
  pub values : l.calls ≤ end
