-- Tables of words, each a u64: parts and joins of such tables are such tables.
use Rattle.std.specs.Prelude.{ℕ, zero, suc, ◌+◌, ◌^◌, ◌<◌, List, [], ◌∷◌, ◌++◌, take, drop, get_or}
use Rattle.std.proofs.Common.{lit<, get_or-drop}

-- every word is a u64
abbrev pub Words : List ℕ → Type 0
Words table = (i : ℕ) → get_or table i 0 < 2 ^ 64

pub no_words : Words []
no_words i = lit< {m = 0} {n = 2 ^ 64} tt

pub words_take : (n : ℕ) (table : List ℕ) → Words table → Words (take n table)
words_take zero table h i = no_words i
words_take (suc n) [] h i = no_words i
words_take (suc n) (x ∷ xs) h zero = h 0
words_take (suc n) (x ∷ xs) h (suc i) = words_take n xs (λ j. h (suc j)) i

pub words_drop : (n : ℕ) (table : List ℕ) → Words table → Words (drop n table)
words_drop n table h i = rw (get_or-drop n table i 0) (h (n + i))

pub words_append : (xs ys : List ℕ) → Words xs → Words ys → Words (xs ++ ys)
words_append [] ys h k i = k i
words_append (x ∷ xs) ys h k zero = h 0
words_append (x ∷ xs) ys h k (suc i) = words_append xs ys (λ j. h (suc j)) k i

pub one_word : (n : ℕ) → n < 2 ^ 64 → Words (n ∷ [])
one_word n h zero = h
one_word n h (suc i) = no_words i
