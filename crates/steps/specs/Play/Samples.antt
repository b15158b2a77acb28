-- What a state's row draws is a play: the samples of its distributions, its limit on entry, its action, and its counters' new values.
-- With what each costs, and with what words can serve of it. Assumes nothing.
use Rattle.machine.specs.Source.{draw_of}
use Rattle.std.specs.Prelude.{Result, Ok, Err}
use Prim.Native.Nat.{ℕ, suc, ◌+◌, ◌≤◌, min}
use native.Mathlib.Omega.{arith}
use Rattle.std.specs.Prelude.{Bool, not, ◌&&◌, ◌||◌, List, [], ◌∷◌, ◌≡◌, refl, eqb, get_or, Float}
use Rattle.std.proofs.Math.Bool.{true, false}
use Rattle.std.specs.Float.Ieee.{eq, to_unsigned}
use Rattle.numbers.specs.Finite.{zero_f}
use Rattle.numbers.specs.Round.{round_away}
use Rattle.machine.specs.Constants.{timeout, duration, limit, max_sampled_timeout, max_sampled_duration, state_limit_max, counter_a, counter_b}
use Rattle.machine.specs.Source.{Drawn, no, got, Source}
use Rattle.machine.specs.declared.source.Place.{Place}
use Rattle.dists.specs.Dist.{dist_at, uniform_draw, outside_draw, sample_of_type, dist_sample, adjusted, adjusted_draw, sample, got_whole, whole_of}
use Rattle.samples.specs.Action.{action_of, has_timeout, has_duration, has_limit, sample_timeout, sample_duration, sample_limit}
use Rattle.samples.specs.Counter.{sample_value}
use Rattle.dists.specs.declared.DistType.{DistType}
use Rattle.dists.specs.declared.DistType.TheVariants.{Absent, Uniform, Outside}
use Rattle.dists.specs.declared.Dist.{Dist}
use Rattle.steps.specs.Transition.{with_state, unspent, entered_with, enter, returned_flags, returned_timer, with_duration, with_timeout, schedule_action, applied, reports_zero, changed_by, change_of, update_one, tallied, with_a, with_b, tally_a, tally_b, and_tally, tally_each, update_counters}
use Rattle.steps.specs.Play.{ask_uniform, ask_outside, ends, after, Counts, one, TypeServed, RowServed, Plays, plays_end, plays_cond, plays_on, plays_then}
use Rattle.steps.specs.declared.MachineRuntime.{MachineRuntime}
use Rattle.steps.specs.declared.Counters.{Counters}
use Rattle.steps.specs.declared.Zeroed.{Zeroed}
use Rattle.steps.specs.declared.Tally.{Tally}
use Rattle.steps.specs.declared.Counter.{Counter}

-- ---- answers without their place, and how the step's type has them
record Count : Type 0 where
  value : ℕ
  zeroed : Bool
  reports : Bool

abbrev counter : Count → Place → Counter
counter c at = record { value = c.value; zeroed = c.zeroed; reports = c.reports; at = at }

abbrev new_value : Drawn Place Count → Result Counter ℕ
new_value (no n at) = Err n
new_value (got c at) = Ok (counter c at)

pub record Tallying : Type 0 where
  pub counters : Counters
  pub zeroed : Zeroed
  pub reports : Bool

abbrev pub tally : Tallying → Place → Tally
tally t at = record { counters = t.counters; place = at; zeroed = t.zeroed; reports = t.reports }

-- before the first counter
abbrev pub untold : Counters → Zeroed → Tallying
untold counters zeroed = record { counters = counters; zeroed = zeroed; reports = false }

abbrev pub tally_drawn : Drawn Place Tallying → Result Tally ℕ
tally_drawn (no n at) = Err n
tally_drawn (got t at) = Ok (tally t at)

-- ---- costs
-- nothing but at most j values
abbrev pub Spent : ℕ → Counts → Counts → Type 0
Spent j k k' =
    (k'.values ≤ k.values + j) × (k'.chances ≡ k.chances) × (k'.attempts ≡ k.attempts) × (k'.zeros ≡ k.zeros)
    × (k'.signals ≡ k.signals)

-- how many counters may still report
abbrev pub unreported : Zeroed → ℕ
unreported z = unspent z.counter_a + unspent z.counter_b

-- those, and a report that is still to be told
abbrev pub owed : Tallying → ℕ
owed t = unreported t.zeroed + one t.reports

-- one counter: what it reports it could still report before
abbrev OneCount : Bool → Count → Counts → Counts → Type 0
OneCount zeroed c k k' = Spent 1 k k' × (unspent c.zeroed + one c.reports ≤ unspent zeroed)

-- at most j values, and no report beyond those that were left
abbrev pub Tallies : ℕ → Tallying → Tallying → Counts → Counts → Type 0
Tallies j t t' k k' = Spent j k k' × (owed t' ≤ owed t)

once : (zeroed b : Bool) → unspent (zeroed || (b && not zeroed)) + one (b && not zeroed) ≤ unspent zeroed
once true true = omega arith
once true false = omega arith
once false true = omega arith
once false false = omega arith

either_le : (x y : Bool) → one (x || y) ≤ one x + one y
either_le true true = omega arith
either_le true false = omega arith
either_le false y = omega arith

as_drawn : (d : Drawn Place Float) → draw_of d ≡ draw_of (after d (λ c s. got c s))
as_drawn (no n s) = refl
as_drawn (got c s) = refl

module _ (Sound : Type 0) where
  -- ---- values
  of-type : (d : DistType) (served : Sound → TypeServed d)
      → Plays Sound draw_of (λ i a. Spent 1) (λ D s. sample_of_type d D.values s)
  unfolding uniform_draw outside_draw
  of-type Absent served =
      plays_end Sound draw_of (λ i a. Spent 1) (λ D s. sample_of_type Absent D.values s) zero_f (λ D s. refl) (λ i k. omega arith)
  of-type (Uniform low high) served =
      plays_cond Sound draw_of (λ i a. Spent 1) _ _ (eq low high)
      (λ e. plays_end Sound draw_of (λ i a. Spent 1) _ low (λ D s. refl) (λ i k. omega arith))
      (λ e. record {
        play = ask_uniform low high ends;
        same = λ D s. as_drawn (D.values.uniform low high s);
        cost = λ i k c. omega arith;
        served = λ s. (served s, λ c. tt);
      })
  of-type Outside served = record {
    play = ask_outside ends;
    same = λ D s. as_drawn (D.values.outside s);
    cost = λ i k c. omega arith;
    served = served;
  }

  pub sample_plays : (d : Dist) (served : Sound → TypeServed d.dist)
      → Plays Sound draw_of (λ i a. Spent 1) (λ D s. sample d D.values s)
  unfolding sample dist_sample
  sample_plays d served =
      plays_then Sound draw_of (λ i a. Spent 1) draw_of (λ a i b. Spent 0) (λ i b. Spent 1)
      (λ D s. sample_of_type d.dist D.values s) (λ D. adjusted_draw d) (of-type d.dist served) (λ D n s. refl)
      (λ a. plays_end Sound draw_of (λ i b. Spent 0) _ (adjusted d a) (λ D s. refl) (λ i k. omega arith))
      (λ i a b k k' k'' h m. omega arith)

  whole-plays : (f : Float → ℕ) (d : Dist) (served : Sound → TypeServed d.dist)
      → Plays Sound draw_of (λ i a. Spent 1) (λ D s. whole_of f (sample d D.values s))
  whole-plays f d served =
      plays_then Sound draw_of (λ i a. Spent 1) draw_of (λ a i b. Spent 0) (λ i b. Spent 1)
      (λ D s. sample d D.values s) (λ D. whole_of f) (sample_plays d served) (λ D n s. refl)
      (λ a. plays_end Sound draw_of (λ i b. Spent 0) _ (f a) (λ D s. refl) (λ i k. omega arith))
      (λ i a b k k' k'' h m. omega arith)

  fixed : (x : ℕ) → Plays Sound draw_of (λ i a. Spent 1) (λ D s. got_whole x s)
  fixed x = plays_end Sound draw_of (λ i a. Spent 1) _ x (λ D s. refl) (λ i k. omega arith)

  module _ (row : List ℕ) (served : Sound → RowServed row) where
    timeout-plays : Plays Sound draw_of (λ i a. Spent 1) (λ D s. sample_timeout row D.values s)
    unfolding sample_timeout
    timeout-plays =
        plays_cond Sound draw_of (λ i a. Spent 1) _ _ (has_timeout row)
        (λ e. whole-plays (λ x. min (round_away x) max_sampled_timeout) (dist_at row timeout) (λ s. (served s).timeout e)) (λ e. fixed 0)

    duration-plays : Plays Sound draw_of (λ i a. Spent 1) (λ D s. sample_duration row D.values s)
    unfolding sample_duration
    duration-plays =
        plays_cond Sound draw_of (λ i a. Spent 1) _ _ (has_duration row)
        (λ e. whole-plays (λ x. min (round_away x) max_sampled_duration) (dist_at row duration) (λ s. (served s).duration e)) (λ e. fixed 0)

    pub limit_plays : Plays Sound draw_of (λ i a. Spent 1) (λ D s. sample_limit row D.values s)
    unfolding sample_limit
    limit_plays =
        plays_cond Sound draw_of (λ i a. Spent 1) _ _ (has_limit row)
        (λ e. whole-plays round_away (dist_at row limit) (λ s. (served s).limit e)) (λ e. fixed state_limit_max)

    -- ---- entering a state, and scheduling its action
    pub enter_plays : (r : MachineRuntime) (state : ℕ)
        → Plays Sound draw_of (λ i a. Spent 1) (λ D s. enter row D.values r state s)
    unfolding enter
    enter_plays r state =
        plays_cond Sound draw_of (λ i a. Spent 1) _ _ (eqb r.current_state state)
        (λ e. plays_end Sound draw_of (λ i a. Spent 1) _ r (λ D s. refl) (λ i k. omega arith))
        (λ e. plays_then Sound draw_of (λ i a. Spent 1) draw_of (λ a i b. Spent 0) (λ i b. Spent 1)
        (λ D s. sample_limit row D.values s) (λ D. entered_with r state) limit_plays (λ D n s. refl)
        (λ a. plays_end Sound draw_of (λ i b. Spent 0) _ (with_state r state a) (λ D s. refl) (λ i k. omega arith))
        (λ i a b k k' k'' h m. omega arith))

    pub schedule_plays : Plays Sound draw_of (λ i a. Spent 2) (λ D s. schedule_action row D.values s)
    unfolding schedule_action
    schedule_plays =
        plays_then Sound draw_of (λ i a. Spent 1) draw_of (λ a i b. Spent 1) (λ i b. Spent 2)
        (λ D s. sample_timeout row D.values s) (λ D. with_timeout row D.values) timeout-plays (λ D n s. refl) lasting
        (λ i a b k k' k'' h m. omega arith)
      where
        lasting : (t : ℕ) → Plays Sound draw_of (λ i b. Spent 1) (λ D s. with_duration row t (sample_duration row D.values s))
        lasting t =
            plays_then Sound draw_of (λ i a. Spent 1) draw_of (λ a i b. Spent 0) (λ i b. Spent 1)
            (λ D s. sample_duration row D.values s) (λ D. with_duration row t) duration-plays (λ D n s. refl)
            (λ a. plays_end Sound draw_of (λ i b. Spent 0) _
            (record { kind = action_of row; flags = returned_flags row; timer = returned_timer row; timeout = t; duration = a })
            (λ D s. refl) (λ i k. omega arith))
            (λ i a b k k' k'' h m. omega arith)

  -- ---- one counter, at word k of the row
  module _ (row : List ℕ) (k : ℕ)
      (served : Sound → eqb (get_or row k 0) 0 ≡ false → TypeServed (dist_at row (k + 2)).dist) where
    value-plays : eqb (get_or row k 0) 0 ≡ false → Plays Sound draw_of (λ i a. Spent 1) (λ D s. sample_value row k D.values s)
    unfolding sample_value
    value-plays e =
        plays_cond Sound draw_of (λ i a. Spent 1) _ _ (eqb (get_or row (k + 2) 0) 0) (λ e'. fixed 1)
        (λ e'. whole-plays (to_unsigned 64) (dist_at row (k + 2)) (λ s. served s e))

    change-plays : (other : ℕ) → eqb (get_or row k 0) 0 ≡ false
        → Plays Sound draw_of (λ i a. Spent 1) (λ D s. change_of row k D.values s other)
    change-plays other e =
        plays_cond Sound draw_of (λ i a. Spent 1) _ _ (eqb (get_or row (k + 1) 0) 1) (λ e'. fixed other) (λ e'. value-plays e)

    one-plays : (old other : ℕ) (zeroed : Bool)
        → Plays Sound new_value (λ i. OneCount zeroed) (λ D s. update_one row k D.values s old other zeroed)
    unfolding update_one
    one-plays old other zeroed =
        plays_cond Sound new_value (λ i. OneCount zeroed) _ _ (eqb (get_or row k 0) 0)
        (λ e. plays_end Sound new_value (λ i. OneCount zeroed) _ (record { value = old; zeroed = zeroed || false; reports = false })
        (λ D s. refl) (λ i k. (omega arith, kept zeroed)))
        (λ e. plays_then Sound draw_of (λ i a. Spent 1) new_value
        (λ a i c k k'. Spent 0 k k' × (unspent c.zeroed + one c.reports ≤ unspent zeroed)) (λ i. OneCount zeroed)
        (λ D s. change_of row k D.values s other) (λ D. changed_by (get_or row k 0) old zeroed) (change-plays other e) (λ D n s. refl)
        (λ a. plays_end Sound new_value _ _ (changed a) (λ D s. refl)
        (λ i n. (omega arith, by_cases (eqb old 0) (eqb (applied (get_or row k 0) old a) 0))))
        (λ i a b k k' k'' h m. (omega (arith, h, m.0), m.1)))
      where
        kept : (z : Bool) → unspent (z || false) + 0 ≤ unspent z
        kept true = omega arith
        kept false = omega arith

        changed : ℕ → Count
        changed a = record {
          value = applied (get_or row k 0) old a;
          zeroed = zeroed || reports_zero old (applied (get_or row k 0) old a) zeroed;
          reports = reports_zero old (applied (get_or row k 0) old a) zeroed;
        }

        by_cases : (a b : Bool) → unspent (zeroed || (not a && b && not zeroed)) + one (not a && b && not zeroed) ≤ unspent zeroed
        by_cases true b = kept zeroed
        by_cases false false = kept zeroed
        by_cases false true = once zeroed true

  -- ---- the counters of a row in their order
  abbrev TallyPlays : ℕ → (Source Place → Tally → Result Tally ℕ) → Type 0
  TallyPlays j f = (t : Tallying) → Plays Sound tally_drawn (λ i. Tallies j t) (λ D s. f D (tally t s))

  tally-none : TallyPlays 0 (λ D. tally_each [])
  tally-none t = plays_end Sound tally_drawn (λ i. Tallies 0 t) _ t (λ D s. refl) (λ i k. (omega arith, omega arith))

  tally-next : (n : ℕ) (f : Source Place → Tally → Result Tally ℕ) (fs : Source Place → List (Tally → Result Tally ℕ))
      → TallyPlays 1 f → TallyPlays n (λ D. tally_each (fs D)) → TallyPlays (suc n) (λ D. tally_each (f D ∷ fs D))
  tally-next n f fs p q t =
      plays_then Sound tally_drawn (λ i. Tallies 1 t) tally_drawn (λ t' i. Tallies n t') (λ i. Tallies (suc n) t)
      (λ D s. f D (tally t s)) (λ D x. and_tally x (tally_each (fs D))) (p t) (λ D n s. refl) q
      (λ i a b k k' k'' h m. (omega (arith, h.0, m.0), omega (arith, h.1, m.1)))

  module _ (row : List ℕ) (served : Sound → RowServed row) (old : Counters) where
    tally-a : TallyPlays 1 (λ D. tally_a row D.values old)
    unfolding tally_a
    tally-a t =
        plays_on Sound new_value (λ i. OneCount t.zeroed.counter_a) tally_drawn
        (λ c i t' k k'. (t' ≡ next c) × Spent 0 k k') (λ i. Tallies 1 t)
        (λ D s. update_one row counter_a D.values s old.counter_a old.counter_b t.zeroed.counter_a)
        (λ D s. tallied (with_a (tally t s))) (λ c D s. Ok (tally (next c) s))
        (one-plays row counter_a (λ s. (served s).counter_a_lem) old.counter_a old.counter_b t.zeroed.counter_a)
        (λ D n s₀ s. refl) (λ D c s₀ s. refl)
        (λ c. plays_end Sound tally_drawn _ _ (next c) (λ D s. refl) (λ i k. (refl, omega arith)))
        (λ i c t' k k' k'' h m. (omega (arith, h.0, m.1), rw m.0 (omega (arith, h.1, either_le t.reports c.reports))))
      where
        next : Count → Tallying
        next c = record {
          counters = record { counter_a = c.value; counter_b = t.counters.counter_b };
          zeroed = record { counter_a = c.zeroed; counter_b = t.zeroed.counter_b };
          reports = t.reports || c.reports;
        }

    tally-b : TallyPlays 1 (λ D. tally_b row D.values old)
    unfolding tally_b
    tally-b t =
        plays_on Sound new_value (λ i. OneCount t.zeroed.counter_b) tally_drawn
        (λ c i t' k k'. (t' ≡ next c) × Spent 0 k k') (λ i. Tallies 1 t)
        (λ D s. update_one row counter_b D.values s old.counter_b old.counter_a t.zeroed.counter_b)
        (λ D s. tallied (with_b (tally t s))) (λ c D s. Ok (tally (next c) s))
        (one-plays row counter_b (λ s. (served s).counter_b_lem) old.counter_b old.counter_a t.zeroed.counter_b)
        (λ D n s₀ s. refl) (λ D c s₀ s. refl)
        (λ c. plays_end Sound tally_drawn _ _ (next c) (λ D s. refl) (λ i k. (refl, omega arith)))
        (λ i c t' k k' k'' h m. (omega (arith, h.0, m.1), rw m.0 (omega (arith, h.1, either_le t.reports c.reports))))
      where
        next : Count → Tallying
        next c = record {
          counters = record { counter_a = t.counters.counter_a; counter_b = c.value };
          zeroed = record { counter_a = t.zeroed.counter_a; counter_b = c.zeroed };
          reports = t.reports || c.reports;
        }

    pub counters_plays : (zeroed : Zeroed)
        → Plays Sound tally_drawn (λ i. Tallies 2 (untold old zeroed)) (λ D s. update_counters row D.values old zeroed s)
    unfolding update_counters
    counters_plays zeroed =
        tally-next 1 (λ D. tally_a row D.values old) (λ D. tally_b row D.values old ∷ []) tally-a
        (tally-next 0 (λ D. tally_b row D.values old) (λ D. []) tally-b tally-none)
        (untold old zeroed)
