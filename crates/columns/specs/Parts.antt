-- How the code of `put_number` goes: spaces in all columns, and then the digits over them. That this is `cell_in` (Columns) is
-- proved with the code.
use Rattle.std.specs.Prelude.{ℕ, ◌-◌, List, ◌++◌, length, take, drop, replicate}
use Rattle.columns.specs.Columns.{last_digits}

-- a text with spaces from `at` up to `end`
unfoldable pub spaces_in : ℕ → ℕ → List ℕ → List ℕ
spaces_in at end text = take at text ++ (replicate (end - at) 32 ++ drop end text)

-- a text with the digits of n before `end`, and no further back than `at`
unfoldable pub digits_in : ℕ → ℕ → ℕ → List ℕ → List ℕ
digits_in at end n text =
    let ds = last_digits (end - at) n in
    take (end - length ds) text ++ (ds ++ drop end text)
