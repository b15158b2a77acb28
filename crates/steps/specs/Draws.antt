-- The laws of draws, whatever the source: a refusal inside a run is one of the source's own, `R` holds of those; and what a scheduled
-- action has of its row. Assumes nothing.
use Rattle.refusal.specs.Refusal.{number}
use Rattle.machine.specs.Source.{draw_of}
use Rattle.std.specs.Prelude.{Result, Ok, Err}
use Rattle.machine.specs.declared.source.Draw.{Draw}
use Prim.Native.Nat.{ℕ, ◌+◌, ◌≤◌, ◌<◌, min}
use Rattle.std.proofs.Common.{arith}
use Rattle.std.specs.Prelude.{Bool, List, [], ◌∷◌, ◌≡◌, refl, ltb, eqb, length, get_or, drop, Float}
use Rattle.std.specs.Float.{nan}
use Rattle.std.specs.Float.Ieee.{eq, le, to_unsigned}
use Rattle.numbers.specs.Round.{round_away}
use Rattle.machine.specs.Constants.{timeout, duration, limit, max_sampled_timeout, max_sampled_duration, counter_a, counter_b}
use Rattle.machine.specs.Source.{Drawn, no, got, Source, Tells, Telling, chance_draw, place, fit_chance, fit_uniform, any_value, on_tape, tapes}
use Rattle.machine.specs.Words.{value_of, word_value, words}
use Rattle.machine.specs.declared.source.Place.{Place}
use Rattle.dists.specs.Dist.{dist_at, uniform_draw, outside_draw, sample_of_type, dist_sample, adjusted_draw, sample, whole_of}
use Rattle.samples.specs.Action.{action_of, has_timeout, has_duration, has_limit, sample_timeout, sample_duration, sample_limit}
use Rattle.samples.specs.Counter.{sample_value}
use Rattle.dists.specs.declared.DistType.{DistType}
use Rattle.dists.specs.declared.DistType.TheVariants.{Absent, Uniform, Outside}
use Rattle.dists.specs.declared.Dist.{Dist}
use Rattle.steps.specs.Transition.{returned_flags, returned_timer, with_duration, with_timeout, schedule_action, changed_by, change_of, update_one, with_a, with_b, tallied, tally_a, tally_b, counter_steps, and_tally, tally_each, untallied, update_counters}
use Rattle.steps.specs.Runs.{either}
use Rattle.steps.specs.declared.TriggerAction.{TriggerAction}
use Rattle.steps.specs.declared.Counters.{Counters}
use Rattle.steps.specs.declared.Zeroed.{Zeroed}
use Rattle.steps.specs.declared.Tally.{Tally}
use Rattle.steps.specs.declared.Counter.{Counter}

-- ---- a source that refuses by such numbers alone
abbrev pub DrawOk : (ℕ → Type 0) → Drawn Place Float → Type 0
DrawOk R (no r at) = R r
DrawOk R (got v at) = Unit

pub record Refuses (R : ℕ → Type 0) (D : Source Place) : Type 0 where
  pub chance : (at : Place) → DrawOk R (D.chance at)
  pub uniform : (low high : Float) (at : Place) → DrawOk R (D.values.uniform low high at)
  pub outside : (at : Place) → DrawOk R (D.values.outside at)

-- every source refuses by some number
pub by_any : (D : Source Place) → Refuses (λ n. Unit) D
by_any D = record {
  chance = λ at. any (D.chance at);
  uniform = λ low high at. any (D.values.uniform low high at);
  outside = λ at. any (D.values.outside at);
}
  where
    any : (d : Drawn Place Float) → DrawOk (λ n. Unit) d
    any (no n at) = tt
    any (got v at) = tt

-- one that tells why by a number that is not 0
pub by_told : (D : Source Place) → Telling D → Refuses (λ n. 0 < n) D
by_told D tells = record {
  chance = λ at. told (D.chance at) (tells.chance at);
  uniform = λ low high at. told (D.values.uniform low high at) (tells.uniform low high at);
  outside = λ at. told (D.values.outside at) (tells.outside at);
}
  where
    told : (d : Drawn Place Float) → Tells d → DrawOk (λ n. 0 < n) d
    told (no n at) h = h
    told (got v at) h = h

module _ (R : ℕ → Type 0) where
  -- two tapes by 16 and by 17
  pub by_tapes : R 16 → R 17 → (chances values : List Float) → Refuses R (tapes chances values)
  by_tapes ended unfit chances values = record {
    chance = λ at. on fit_chance chances at.chance_at (place (at.chance_at + 1) at.value_at) at;
    uniform = λ low high at.
        on (fit_uniform low high) values at.value_at (place at.chance_at (at.value_at + 1)) at;
    outside = λ at. on any_value values at.value_at (place at.chance_at (at.value_at + 1)) at;
  }
    where
      on : (fit : Float → Bool) (tape : List Float) (i : ℕ) (after here : Place) → DrawOk R (on_tape fit tape i after here)
      on fit tape i after here =
          either (DrawOk R) (ltb i (length tape)) _ _ (either (DrawOk R) (fit (get_or tape i nan)) _ _ tt unfit) ended

  -- words by 16
  pub by_words : R 16 → (ws : List ℕ) → Refuses R (words ws)
  by_words ended ws = record {
    chance = λ at. either (DrawOk R) (ltb at.value_at (length ws)) _ _ tt ended;
    uniform = λ low high at. tried low high (drop at.value_at ws) at.chance_at at.value_at;
    outside = λ at. ended;
  }
    where
      tried : (low high : Float) (vs : List ℕ) (c at : ℕ) → DrawOk R (word_value low high vs c at)
      tried low high [] c at = ended
      tried low high (v ∷ vs) c at = either (DrawOk R) (le high (value_of low high v)) _ _ (tried low high vs c (at + 1)) tt

  -- ---- answers of draws: a refusal, or a value of which P holds
  abbrev ValueOk : Result (Draw Float) ℕ → Type 0
  ValueOk (Err r) = R r
  ValueOk (Ok v) = Unit

  abbrev pub WholeOk : (ℕ → Type 0) → Result (Draw ℕ) ℕ → Type 0
  WholeOk P (Err r) = R r
  WholeOk P (Ok w) = P w.value

  abbrev pub ChanceOk : Result (Draw Float) ℕ → Type 0
  ChanceOk (Err r) = R r
  ChanceOk (Ok d) = Unit

-- what a scheduled action has of its row
pub record Gives (row : List ℕ) (a : TriggerAction) : Type 0 where
  pub kind : a.kind ≡ action_of row
  pub flags : a.flags ≡ returned_flags row
  pub timer : a.timer ≡ returned_timer row
  pub timeout : a.timeout ≤ max_sampled_timeout
  pub duration : a.duration ≤ max_sampled_duration

module _ (R : ℕ → Type 0) where
  abbrev pub ScheduledOk : List ℕ → Result (Draw TriggerAction) ℕ → Type 0
  ScheduledOk row (Err r) = R r
  ScheduledOk row (Ok d) = Gives row d.value

  abbrev CountedOk : Result Counter ℕ → Type 0
  CountedOk (Err r) = R r
  CountedOk (Ok c) = Unit

  abbrev pub TalliedOk : Result Tally ℕ → Type 0
  TalliedOk (Err r) = R r
  TalliedOk (Ok t) = Unit

module _ (R : ℕ → Type 0) (D : Source Place) (refuses : Refuses R D) where
  drawn-ok : (d : Drawn Place Float) → DrawOk R d → ValueOk R (draw_of d)
  drawn-ok (no n at) h = h
  drawn-ok (got v at) h = tt

  type-ok : (d : DistType) (at : Place) → ValueOk R (sample_of_type d D.values at)
  unfolding uniform_draw outside_draw
  type-ok Absent at = tt
  type-ok (Uniform low high) at =
      either (ValueOk R) (eq low high) _ _ tt (drawn-ok (D.values.uniform low high at) (refuses.uniform low high at))
  type-ok Outside at = drawn-ok (D.values.outside at) (refuses.outside at)

  sample-ok : (d : Dist) (at : Place) → ValueOk R (sample d D.values at)
  unfolding sample dist_sample
  sample-ok d at = go (sample_of_type d.dist D.values at) (type-ok d.dist at)
    where
      go : (v : Result (Draw Float) ℕ) → ValueOk R v → ValueOk R (adjusted_draw d v)
      go (Err n) h = h
      go (Ok v) h = tt

  whole-ok : (P : ℕ → Type 0) (f : Float → ℕ) → ((x : Float) → P (f x)) → (d : Dist) (at : Place)
      → WholeOk R P (whole_of f (sample d D.values at))
  whole-ok P f p d at = go (sample d D.values at) (sample-ok d at)
    where
      go : (v : Result (Draw Float) ℕ) → ValueOk R v → WholeOk R P (whole_of f v)
      go (Err n) h = h
      go (Ok v) h = p v.value

  at_most : (m a : ℕ) → min a m ≤ m
  at_most m a = omega arith

  -- ---- a chance
  pub chance_ok : (at : Place) → ChanceOk R (chance_draw D.chance at)
  unfolding chance_draw
  chance_ok at = go (D.chance at) (refuses.chance at)
    where
      go : (d : Drawn Place Float) → DrawOk R d → ChanceOk R (draw_of d)
      go (no n at) h = h
      go (got c at) h = tt

  -- ---- the samples of an action and of a counter
  module _ (row : List ℕ) where
    timeout-ok : (at : Place) → WholeOk R (λ v. v ≤ max_sampled_timeout) (sample_timeout row D.values at)
    unfolding sample_timeout
    timeout-ok at =
        either (WholeOk R (λ v. v ≤ max_sampled_timeout)) (has_timeout row) _ _
        (whole-ok (λ v. v ≤ max_sampled_timeout) (λ x. min (round_away x) max_sampled_timeout)
        (λ x. at_most max_sampled_timeout (round_away x)) (dist_at row timeout) at) (omega arith)

    duration-ok : (at : Place) → WholeOk R (λ v. v ≤ max_sampled_duration) (sample_duration row D.values at)
    unfolding sample_duration
    duration-ok at =
        either (WholeOk R (λ v. v ≤ max_sampled_duration)) (has_duration row) _ _
        (whole-ok (λ v. v ≤ max_sampled_duration) (λ x. min (round_away x) max_sampled_duration)
        (λ x. at_most max_sampled_duration (round_away x)) (dist_at row duration) at) (omega arith)

    pub limit_ok : (at : Place) → WholeOk R (λ v. Unit) (sample_limit row D.values at)
    unfolding sample_limit
    limit_ok at =
        either (WholeOk R (λ v. Unit)) (has_limit row) _ _ (whole-ok (λ v. Unit) round_away (λ x. tt) (dist_at row limit) at) tt

    value-ok : (k : ℕ) (at : Place) → WholeOk R (λ v. Unit) (sample_value row k D.values at)
    unfolding sample_value
    value-ok k at =
        either (WholeOk R (λ v. Unit)) (eqb (get_or row (k + 2) 0) 0) _ _ tt
        (whole-ok (λ v. Unit) (to_unsigned 64) (λ x. tt) (dist_at row (k + 2)) at)

    -- ---- a scheduled action
    pub schedule_ok : (at : Place) → ScheduledOk R row (schedule_action row D.values at)
    unfolding schedule_action
    schedule_ok at = timed (sample_timeout row D.values at) (timeout-ok at)
      where
        lasting : (t : ℕ) → t ≤ max_sampled_timeout → (x : Result (Draw ℕ) ℕ) → WholeOk R (λ v. v ≤ max_sampled_duration) x
            → ScheduledOk R row (with_duration row t x)
        lasting t l (Err n) h = h
        lasting t l (Ok w) h = record { kind = refl; flags = refl; timer = refl; timeout = l; duration = h }

        timed : (x : Result (Draw ℕ) ℕ) → WholeOk R (λ v. v ≤ max_sampled_timeout) x → ScheduledOk R row (with_timeout row D.values x)
        timed (Err n) h = h
        timed (Ok w) h = lasting w.value h (sample_duration row D.values w.at) (duration-ok w.at)

    -- ---- the counters of the row
    one_ok : (k : ℕ) (f : Counter → Tally) (at : Place) (old other : ℕ) (zeroed : Bool)
        → TalliedOk R (tallied f (update_one row k D.values at old other zeroed))
    unfolding update_one
    one_ok k f at old other zeroed =
        tally (update_one row k D.values at old other zeroed)
        (either (CountedOk R) (eqb (get_or row k 0) 0) _ _ tt
        (changed (change_of row k D.values at other)
        (either (WholeOk R (λ v. Unit)) (eqb (get_or row (k + 1) 0) 1) _ _ tt (value-ok k at))))
      where
        changed : (x : Result (Draw ℕ) ℕ) → WholeOk R (λ v. Unit) x → CountedOk R (changed_by (get_or row k 0) old zeroed x)
        changed (Err n) h = h
        changed (Ok w) h = tt

        tally : (x : Result Counter ℕ) → CountedOk R x → TalliedOk R (tallied f x)
        tally (Err n) h = h
        tally (Ok c) h = tt

  abbrev AllOk : List (Tally → Result Tally ℕ) → Type 0
  AllOk [] = Unit
  AllOk (f ∷ fs) = ((t : Tally) → TalliedOk R (f t)) × AllOk fs

  tally-each-ok : (fs : List (Tally → Result Tally ℕ)) → AllOk fs → (t : Tally) → TalliedOk R (tally_each fs t)
  tally-each-ok [] h t = tt
  tally-each-ok (f ∷ fs) h t = next (f t) (h.0 t) (tally-each-ok fs h.1)
    where
      next : (x : Result Tally ℕ) → TalliedOk R x → ((u : Tally) → TalliedOk R (tally_each fs u))
          → TalliedOk R (and_tally x (tally_each fs))
      next (Err n) o g = o
      next (Ok u) o g = g u

  pub counters_ok : (row : List ℕ) (old : Counters) (zeroed : Zeroed) (at : Place)
      → TalliedOk R (update_counters row D.values old zeroed at)
  unfolding update_counters tally_a tally_b
  counters_ok row old zeroed at =
      tally-each-ok (counter_steps row D.values old) (
        λ t. one_ok row counter_a (with_a t) t.place old.counter_a old.counter_b t.zeroed.counter_a,
        (λ t. one_ok row counter_b (with_b t) t.place old.counter_b old.counter_a t.zeroed.counter_b, tt),
      )
      (untallied old zeroed at)
