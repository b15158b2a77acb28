-- Document 01's marked cases: a table of what the definitions answer beside what document 01 says,
-- under one statement.
use Rattle.std.specs.Prelude.{Result, Ok, Err, Option, Some}
use Rattle.machine.specs.declared.source.Draw.{Draw}
use Rattle.steps.specs.declared.Step.{Step}
use Rattle.std.specs.Prelude.{ℕ, ◌+◌, ◌^◌, Bool, true, false, List, [], ◌∷◌, ◌++◌, ◌≡◌, refl, pos, Float}
use Rattle.std.specs.Float.{inf, fin, binary64}
use Rattle.std.specs.Float.Ieee.{of_bits, of_int, to_unsigned, add, lt, le, eq, div}
use Rattle.numbers.specs.Finite.{zero_f, is_finite}
use Rattle.numbers.specs.Fraction.{reached}
use Rattle.numbers.specs.Round.{round_away}
use Rattle.machine.specs.Constants.{action, timeout, counter_a, counter_b, send_padding, decrement, set_to}
use Rattle.machine.specs.Event.{normal_sent, counter_zero}
use Rattle.machine.specs.Source.{tape_values, tapes, place, chance_draw}
use Rattle.machine.specs.State.{rows_of, walk, sample_state}
use Rattle.dists.specs.Dist.{dist_type, dist_at, uniform_draw, outside_draw, dist_sample, or_zero, capped, adjusted, sample, got_whole}
use Rattle.samples.specs.Action.{sample_timeout, sample_limit, has_limit}
use Rattle.samples.specs.Counter.{sample_value}
use Rattle.dists.specs.declared.DistType.TheVariants.{Outside}
use Rattle.dists.specs.declared.Dist.{Dist}
use Rattle.steps.specs.Limits.{below_fraction, below_limit_padding, below_action_limits}
use Rattle.steps.specs.Transition.{Env, env, no_action, enter, applied, update_one, tally_a, tally_b, update_counters, update_counter, finish, transition_by, zero_transition, transition}
use Rattle.steps.specs.Framework.{shared_from}
use Rattle.steps.specs.Example.{state_with, pair_first, pair_count, f32, f64, half32, one32, half64, one64, two64, five64}
use Rattle.steps.specs.declared.MachineRuntime.{MachineRuntime}
use Rattle.steps.specs.declared.Context.{Context}

-- an answer of one of the definitions; of a step, the machine's state and its two counters
pub data Answer : Type 0 where
  drawn : Result (Draw ℕ) ℕ → Answer
  float : Float → Answer
  test : Bool → Answer
  next : Option ℕ → Answer
  machine : ℕ → ℕ → ℕ → Answer
  none : Answer

abbrev machine_of : Result Step ℕ → Answer
machine_of (Err n) = none
machine_of (Ok d) = machine d.runtime.current_state d.runtime.counters.counter_a d.runtime.counters.counter_b

-- each answer is the expected one
abbrev pub Rows : List (Answer × Answer) → Type 0
Rows [] = Unit
Rows (r ∷ rs) = (r.0 ≡ r.1) × Rows rs

-- ---- a machine in state 0 with these counts and counters, under a machine fraction of 0.5, no
-- allowance and no framework fraction
abbrev runtime_of : (limit padding normal a b : ℕ) → MachineRuntime
runtime_of limit padding normal a b = record {
  current_state = 0;
  state_limit = limit;
  counts = record { padding_sent = padding; normal_sent = normal; blocking_duration = 0 };
  machine_start = 0;
  allowed_blocked_microsec = 0;
  counters = record { counter_a = a; counter_b = b };
}

abbrev under_half : (padding normal : ℕ) → Context
under_half padding normal = record {
  machine = 0;
  allowed_padding_packets = 0;
  machine_padding_bits = half64;
  machine_blocking_bits = 0;
  current_time = 0;
  max_padding_frac = zero_f;
  max_blocking_frac = zero_f;
  framework_start = 0;
  normal_sent_packets = normal;
  padding_sent_packets = padding;
  blocking_duration = 0;
  blocking_started = 0;
  blocking_active = 0;
}

abbrev passes : (limit padding normal : ℕ) → Answer
passes limit padding normal = test (below_limit_padding (under_half padding normal) (runtime_of limit padding normal 0 0))

-- ---- distributions drawn outside
abbrev outside : (start max : Float) → Dist
outside start max = record { dist = Outside; start = start; max = max }

-- SendPadding, its timeout and its counter A drawn outside
abbrev draws_outside : List ℕ
draws_outside = state_with ((action, send_padding) ∷ (timeout, 2) ∷ (counter_a, 3) ∷ (counter_a + 2, 2) ∷ [])

-- ---- NormalSent leads from state 0 to state 1 and CounterZero from there to state 2; `words` are
-- state 1's counters
abbrev counting : List (ℕ × ℕ) → Env
counting words =
    env
    (state_with ((pair_first normal_sent, 0) ∷ (pair_count normal_sent, 1) ∷ [])
    ++ state_with ((pair_first counter_zero, 1) ∷ (pair_count counter_zero, 1) ∷ words) ++ state_with [])
    (1 ∷ one32 ∷ 2 ∷ one32 ∷ []) (tapes (f32 half32 ∷ f32 half32 ∷ []) []) (under_half 0 0)

abbrev after_normal_sent : List (ℕ × ℕ) → (a b : ℕ) → Answer
after_normal_sent words a b = machine_of (transition (counting words) normal_sent (runtime_of 0 0 0 a b) (shared_from 0) no_action)

abbrev pub table : List (Answer × Answer)
table =
    -- sample 7.5 gives timeout 8 and counter value 7
    (drawn (sample_timeout draws_outside (tape_values (f64 0x401e_0000_0000_0000 ∷ [])) (place 0 0)), drawn (got_whole 8 (place 0 1))) ∷
    (drawn (sample_value draws_outside counter_a (tape_values (f64 0x401e_0000_0000_0000 ∷ [])) (place 0 0)), drawn (got_whole 7 (place 0 1))) ∷
    -- -3 with start 1 gives 0; infinity gives 0; 2.5 with max 2 gives 2
    (float (adjusted (outside (f64 one64) zero_f) (f64 0xc008_0000_0000_0000)), float zero_f) ∷
    (float (adjusted (outside zero_f zero_f) (inf false)), float zero_f) ∷
    (float (adjusted (outside zero_f (f64 two64)) (f64 0x4004_0000_0000_0000)), float (f64 two64)) ∷
    -- 2^53 + 1 as f64 is 2^53; 2^53 + 3 is 2^53 + 4, which is (2^51 + 1) * 2^2
    (float (of_int binary64 (pos (2 ^ 53 + 1))), float (fin false 1 (pos 53))) ∷
    (float (of_int binary64 (pos (2 ^ 53 + 3))), float (fin false (2 ^ 51 + 1) (pos 2))) ∷
    -- machine fraction 0.5, allowance 0, state limit 1 and no framework fraction, with 1 padding of 2
    -- stops, 1 of 3 passes; 0 of 0 with state limit 0 passes
    (passes 1 1 1, test false) ∷
    (passes 1 1 2, test true) ∷
    (passes 0 0 0, test true) ∷
    -- probabilities 0.5, 0.5 with draw 0.5 choose the second
    (next (sample_state (7 ∷ half32 ∷ 8 ∷ half32 ∷ []) 0 2 (f32 half32)), next (Some 8)) ∷
    -- A = 3, B = 4, both Set by copy, give 4 and 3
    (after_normal_sent ((counter_a, set_to) ∷ (counter_a + 1, 1) ∷ (counter_b, set_to) ∷ (counter_b + 1, 1) ∷ []) 3 4, machine 1 4 3) ∷
    -- A = 2 minus 5 gives CounterZero: the machine goes on to state 2
    (after_normal_sent ((counter_a, decrement) ∷ (counter_a + 2, 1) ∷ (counter_a + 3, five64) ∷ (counter_a + 4, five64) ∷ []) 2 0, machine 2 0 0) ∷
    []

pub table_holds : Rows table
unfolding
    sample_timeout sample_limit has_limit sample_value sample dist_sample dist_at dist_type uniform_draw
    outside_draw adjusted or_zero capped is_finite round_away to_unsigned of_bits of_int add lt le eq div
    reached below_fraction below_limit_padding below_action_limits rows_of chance_draw walk sample_state enter
    applied update_one update_counter update_counters tally_a tally_b finish transition_by zero_transition
table_holds = (refl, (refl, (refl, (refl, (refl, (refl, (refl, (refl, (refl, (refl, (refl, (refl, (refl, tt)))))))))))))
