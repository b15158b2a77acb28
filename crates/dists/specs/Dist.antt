-- dist.rs: a distribution of five words, its validity, and a sample of it with the draw that it takes from the value tape.
use Rattle.std.specs.Prelude.{ℕ, ◌+◌, List, Bool, true, cond, not, ◌&&◌, get_or, eqb, Float, Result, Ok, Err}
use Rattle.std.specs.Float.{binary64}
use Rattle.std.specs.Float.Ieee.{of_bits, add, sub, lt, eq}
use Rattle.numbers.specs.Finite.{is_finite, zero_f}
use Rattle.machine.specs.Source.{Values, draw, draw_of}
use Rattle.machine.specs.declared.source.Place.{Place}
use Rattle.machine.specs.declared.source.Draw.{Draw}
use Rattle.dists.specs.declared.DistType.{DistType}
use Rattle.dists.specs.declared.DistType.TheVariants.{Absent, Uniform, Outside}
use Rattle.dists.specs.declared.Dist.{Dist}

-- ---- five words of a row: kind, then the bits of low, high, start and max
abbrev pub f64_at : List ℕ → ℕ → Float
f64_at row k = of_bits binary64 (get_or row k 0)

-- Kind 0 is absent, 1 Uniform. Every other word reads as drawn outside; the table checks leave only 2.
unfoldable pub dist_type : ℕ → Float → Float → DistType
dist_type kind low high = cond (eqb kind 0) Absent (cond (eqb kind 1) (Uniform low high) Outside)

unfoldable pub dist_at : List ℕ → ℕ → Dist
dist_at row k = record {
  dist = dist_type (get_or row k 0) (f64_at row (k + 1)) (f64_at row (k + 2));
  start = f64_at row (k + 3);
  max = f64_at row (k + 4);
}

-- ---- Dist::validate
unfoldable pub valid_uniform : Float → Float → Bool
valid_uniform low high = is_finite low && is_finite high && not (lt high low) && is_finite (sub binary64 high low)

abbrev pub valid_type : DistType → Bool
valid_type Absent = true
valid_type (Uniform low high) = valid_uniform low high
valid_type Outside = true

unfoldable pub validate : Dist → Bool
validate d = valid_type d.dist

-- ---- a value draw
abbrev pub got_value : Float → Place → Result (Draw Float) ℕ
got_value value at = Ok (draw value at)

-- A Uniform value; with low = high it takes no draw.
unfoldable pub uniform_draw : Float → Float → Values Place → Place → Result (Draw Float) ℕ
uniform_draw low high values at = cond (eq low high) (got_value low at) (draw_of (values.uniform low high at))

-- A value drawn outside.
unfoldable pub outside_draw : Values Place → Place → Result (Draw Float) ℕ
outside_draw values at = draw_of (values.outside at)

-- ---- Dist::dist_sample; an absent distribution is never sampled
abbrev pub sample_of_type : DistType → Values Place → Place → Result (Draw Float) ℕ
sample_of_type Absent values at = got_value zero_f at
sample_of_type (Uniform low high) values at = uniform_draw low high values at
sample_of_type Outside values at = outside_draw values at

unfoldable pub dist_sample : Dist → Values Place → Place → Result (Draw Float) ℕ
dist_sample d values at = sample_of_type d.dist values at

-- ---- Dist::sample
-- sampled + start: not finite gives 0.0, at or below 0 gives +0.0
unfoldable pub or_zero : Float → Float
or_zero x = cond (is_finite x && lt zero_f x) x zero_f

-- a max above 0 caps it
unfoldable pub capped : Float → Float → Float
capped max x = cond (lt zero_f max && lt max x) max x

unfoldable pub adjusted : Dist → Float → Float
adjusted d sampled = capped d.max (or_zero (add binary64 sampled d.start))

abbrev pub adjusted_draw : Dist → Result (Draw Float) ℕ → Result (Draw Float) ℕ
adjusted_draw d (Err r) = Err r
adjusted_draw d (Ok v) = got_value (adjusted d v.value) v.at

unfoldable pub sample : Dist → Values Place → Place → Result (Draw Float) ℕ
sample d values at = adjusted_draw d (dist_sample d values at)

-- ---- a sample as a whole number
abbrev pub got_whole : ℕ → Place → Result (Draw ℕ) ℕ
got_whole value at = Ok (draw value at)

abbrev pub whole_of : (Float → ℕ) → Result (Draw Float) ℕ → Result (Draw ℕ) ℕ
whole_of f (Err r) = Err r
whole_of f (Ok v) = got_whole (f v.value) v.at
