-- A word's columns from the left, byte by byte: how the code of `cell_of` goes. That it is `cell_of` (Cells) is proved with the code.
use Rattle.std.specs.Prelude.{ℕ, ◌+◌, ◌*◌, ◌-◌, ◌^◌, Bool, cond, ◌&&◌, Option, Some, None, eqb, ltb, leb}

unfoldable pub is_digit : ℕ → Bool
is_digit b = leb 48 b && leb b 57

-- the value of a digit
unfoldable pub digit_of : ℕ → Option ℕ
digit_of b = cond (is_digit b) (Some (b - 48)) None

-- a digit has made m of the number; a space stands where that would be 0
abbrev pub grown : ℕ → Option ℕ
grown m = cond (eqb m 0) None (Some m)

-- the number n so far, and the byte b of a column left of the last: a space before the first digit, or a digit
unfoldable pub column_of : ℕ → ℕ → Option ℕ
column_of n b =
    cond (eqb b 32) (cond (eqb n 0) (Some 0) None) (cond (is_digit b) (grown (n * 10 + (b - 48))) None)

-- the number n so far, and the byte b of the last column: a digit, with which it is still a u64
unfoldable pub last_of : ℕ → ℕ → Option ℕ
last_of n b =
    cond (is_digit b)
    (cond (ltb (n * 10 + (b - 48)) (2 ^ 64)) (Some (n * 10 + (b - 48))) None)
    None
