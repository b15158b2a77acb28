-- Numbers in columns, computed.
use Rattle.std.specs.Prelude.{◌≡◌, refl, [], ◌∷◌}
use Rattle.columns.specs.Digits.{digits, digits_by}
use Rattle.columns.specs.Columns.{fits, last_digits, right, cell_in}

-- 0 is the digit 0
nought : right 4 0 ≡ 32 ∷ 32 ∷ 32 ∷ 48 ∷ []
unfolding right fits digits digits_by
nought = refl

-- 1024 in six columns: two spaces, and 1, 0, 2, 4
inside : right 6 1024 ≡ 32 ∷ 32 ∷ 49 ∷ 48 ∷ 50 ∷ 52 ∷ []
unfolding right fits digits digits_by
inside = refl

-- the largest word in 21 columns: one space, and its 20 digits
largest : right 21 18446744073709551615
    ≡ 32 ∷ 49 ∷ 56 ∷ 52 ∷ 52 ∷ 54 ∷ 55 ∷ 52 ∷ 52 ∷ 48 ∷ 55 ∷ 51 ∷ 55 ∷ 48 ∷ 57 ∷ 53 ∷ 53 ∷ 49 ∷ 54 ∷ 49 ∷ 53 ∷ []
unfolding right fits digits digits_by
largest = refl

-- 1024 does not fit three columns: 0, 2, 4
outside : right 3 1024 ≡ 48 ∷ 50 ∷ 52 ∷ []
unfolding right fits last_digits digits digits_by
outside = refl

-- 7 in the two columns from byte 1 on: the bytes beside them stay
beside : cell_in 1 2 7 (1 ∷ 2 ∷ 3 ∷ 4 ∷ []) ≡ 1 ∷ 32 ∷ 55 ∷ 4 ∷ []
unfolding cell_in right fits digits digits_by
beside = refl
