-- Words are an honest source: their chances are fit, their Uniform values too where the bounds are valid, and they refuse as 16 alone.
-- Assumes nothing.
use Rattle.std.specs.Prelude.{ℕ, ◌+◌, Bool, true, false, cond, List, [], ◌∷◌, ◌≡◌, refl, ltb, Float, length, get_or, drop}
use Rattle.std.specs.Float.Ieee.{le}
use Rattle.machine.specs.Source.{no, got, fit_chance, fit_uniform, place}
use Rattle.machine.specs.Words.{chance_of, value_of, word_chance, word_value, words}
use Rattle.machine.specs.Words.Laws.{chance_fits}
use Rattle.machine.specs.declared.source.Place.{Place}
use Rattle.dists.specs.Uniform.{uniform_fits}
use Rattle.steps.specs.Play.{Bounds}
use Rattle.steps.specs.Play.Laws.{Fit, Honest}

chance_within : (ws : List ℕ) (at : Place) → Fit fit_chance (word_chance ws at)
chance_within ws at = by (ltb at.value_at (length ws))
  where
    by : (b : Bool)
        → Fit fit_chance (cond b (got (chance_of (get_or ws at.value_at 0)) (place at.chance_at (at.value_at + 1))) (no 16 at))
    by true = chance_fits (get_or ws at.value_at 0)
    by false = refl

value_within : (low high : Float) → Bounds low high → (ws : List ℕ) (c at : ℕ)
    → Fit (fit_uniform low high) (word_value low high ws c at)
value_within low high b [] c at = refl
value_within low high b (w ∷ ws) c at = by (le high (value_of low high w)) refl (value_within low high b ws c (at + 1))
  where
    by : (t : Bool) → le high (value_of low high w) ≡ t → Fit (fit_uniform low high) (word_value low high ws c (at + 1))
        → Fit (fit_uniform low high)
        (cond t (word_value low high ws c (at + 1)) (got (value_of low high w) (place c (at + 1))))
    by true e h = h
    by false e h = uniform_fits low high w b.valid b.low_fits e

-- THEOREM: a Uniform value that is worked out is at least low and below high; where there is none, that is 16.
pub uniform_within : (ws : List ℕ) (low high : Float) → Bounds low high → (at : Place)
    → Fit (fit_uniform low high) ((words ws).values.uniform low high at)
uniform_within ws low high b at = value_within low high b (drop at.value_at ws) at.chance_at at.value_at

pub words_honest : (ws : List ℕ) → Honest (words ws)
words_honest ws = record { chance = chance_within ws; uniform = uniform_within ws }
