-- A number in columns, right-justified. A text is a list of bytes.
use Rattle.std.specs.Prelude.{ℕ, ◌+◌, ◌-◌, Bool, cond, List, [], ◌∷◌, ◌++◌, leb, length, take, drop, replicate}
use Rattle.columns.specs.Digits.{digits}

-- a number fits w columns: it has no more digits
unfoldable pub fits : ℕ → ℕ → Bool
fits w n = leb (length (digits n)) w

-- what a number gets that does not fit: its last w digits
unfoldable pub last_digits : ℕ → ℕ → List ℕ
last_digits w n = drop (length (digits n) - w) (digits n)

-- n in w columns: a number that fits fills them with spaces and then its digits, and one that does not with its last
unfoldable pub right : ℕ → ℕ → List ℕ
right w n = cond (fits w n) (replicate (w - length (digits n)) 32 ++ digits n) (last_digits w n)

-- a text whose w bytes from `at` on are n's columns, and whose other bytes stay
unfoldable pub cell_in : ℕ → ℕ → ℕ → List ℕ → List ℕ
cell_in at w n text = take at text ++ (right w n ++ drop (at + w) text)

-- numbers one behind the other, each in w columns
unfoldable pub rights : ℕ → List ℕ → List ℕ
rights w [] = []
rights w (n ∷ ns) = right w n ++ rights w ns
