-- What a call answers and leaves.
use Rattle.std.specs.Prelude.{ℕ, ◌*◌, ◌≡◌, Bool, cond, List, ◌++◌, leb, length, drop}
use Rattle.columns.specs.Columns.{rights}

-- there is room for all numbers
abbrev pub room : ℕ → List ℕ → List ℕ → Bool
room w ns text = leb (w * length ns) (length text)

-- with room: the bytes, and the numbers in their columns at the start of the text; else 0, and the text as it was
abbrev pub Put : ℕ → List ℕ → List ℕ → ℕ → List ℕ → Type 0
Put w ns text r out =
    (r ≡ cond (room w ns text) (w * length ns) 0)
    × (out ≡ cond (room w ns text) (rights w ns ++ drop (w * length ns) text) text)
