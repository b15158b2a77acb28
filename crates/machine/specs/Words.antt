-- Draws from one tape of raw words (document 02, job 4). The position stands in `value_at`; every word that was tried is taken.
pub mod Laws
use Rattle.std.specs.Prelude.{ℕ, ◌+◌, ◌/◌, ◌%◌, ◌^◌, List, [], ◌∷◌, false, cond, length, get_or, drop, ltb, eqb, Float}
use Rattle.std.specs.Float.{binary32, binary64}
use Rattle.std.specs.Float.Ieee.{round, add, sub, mul, le}
use Rattle.machine.specs.Source.{Drawn, no, got, Values, Source, place, next_chance, tape_values}
use Rattle.machine.specs.declared.source.Place.{Place}

-- a chance: the top 24 bits of a word divided by 2^24
abbrev pub chance_of : ℕ → Float
chance_of w = round binary32 false (w / 2 ^ 40 % 2 ^ 24) (2 ^ 24)

-- the top 53 bits divided by 2^53
abbrev pub unit_of : ℕ → Float
unit_of w = round binary64 false (w / 2 ^ 11 % 2 ^ 53) (2 ^ 53)

-- a Uniform value: low + (high - low) × u, each operation rounded
abbrev pub value_of : Float → Float → ℕ → Float
value_of low high w = add binary64 low (mul binary64 (sub binary64 high low) (unit_of w))

-- 16 at the tape's end
abbrev pub word_chance : List ℕ → Place → Drawn Place Float
word_chance ws at =
    cond (ltb at.value_at (length ws))
    (got (chance_of (get_or ws at.value_at 0)) (place at.chance_at (at.value_at + 1)))
    (no 16 at)

-- where a value is high or more the next word is tried
abbrev pub word_value : Float → Float → List ℕ → ℕ → ℕ → Drawn Place Float
word_value low high [] c at = no 16 (place c at)
word_value low high (w ∷ ws) c at =
    cond (le high (value_of low high w)) (word_value low high ws c (at + 1)) (got (value_of low high w) (place c (at + 1)))

-- nothing is drawn outside: tables that would are refused before (24)
abbrev pub word_values : List ℕ → Values Place
word_values ws = record {
  uniform = λ low high at. word_value low high (drop at.value_at ws) at.chance_at at.value_at;
  outside = no 16;
}

abbrev pub words : List ℕ → Source Place
words ws = record {
  attempt = λ event machine at. at;
  chance = word_chance ws;
  values = word_values ws;
}

-- ---- What the code is lent: both kinds. The words are meant where there are any; a call on an empty tape of words is one on two
-- empty tapes (`Laws.lent_words`).
abbrev pub lent_chance : List Float → List ℕ → Place → Drawn Place Float
lent_chance chances ws = cond (eqb (length ws) 0) (next_chance chances) (word_chance ws)

abbrev pub lent_values : List Float → List ℕ → Values Place
lent_values values ws = cond (eqb (length ws) 0) (tape_values values) (word_values ws)

abbrev pub lent : List Float → List Float → List ℕ → Source Place
lent chances values ws = record {
  attempt = λ event machine at. at;
  chance = lent_chance chances ws;
  values = lent_values values ws;
}
