-- Document 01's printed run comes out of the definitions: the opening is accepted, and the batch writes
-- the row of the printed example. "One machine, one state, all four fractions 0, SendPadding with
-- timeout Uniform 10 to 10 (start and max 0), no limit or counter, NormalSent to state 0 with
-- probability 1, draw 0.25, one NormalSent at time 5."
use Rattle.std.specs.Prelude.{ℕ, ◌+◌, [], ◌∷◌, ◌≡◌, refl, replicate}
use Rattle.std.specs.Float.Ieee.{of_bits, add, sub, lt, le, eq}
use Rattle.numbers.specs.Finite.{zero_f, is_finite}
use Rattle.numbers.specs.Round.{round_away}
use Rattle.machine.specs.Constants.{action, timeout, send_padding, state_limit_max}
use Rattle.machine.specs.Event.{event_of, normal_sent}
use Rattle.machine.specs.Source.{tapes, chance_draw}
use Rattle.machine.specs.State.{rows_of, walk, sample_state}
use Rattle.dists.specs.Dist.{dist_type, dist_at, valid_uniform, validate, uniform_draw, dist_sample, or_zero, capped, adjusted, sample}
use Rattle.samples.specs.Action.{sample_timeout, sample_duration, sample_limit, has_limit}
use Rattle.rows.specs.First.{or_else, first_refusal}
use Rattle.rows.specs.Row.{pair_refusal, row_refusal, sum_refusal, transition_refusal, is_target, improbable, seen_in, sum_from}
use Rattle.tables.specs.State.{events_refusal, codes_unknown, action_unknown, common_unknown, needed_unknown, counter_unknown, dists_invalid, action_invalid, counter_invalid, invalid, state_refusal}
use Rattle.tables.specs.Machine.{beyond_fraction, each_state, states_refusal, machine_refusal, whole_tables, tables_refusal}
use Rattle.tables.specs.Framework.{is_fraction, fractions_refusal}
use Rattle.steps.specs.Limits.{below_fraction, below_limit_padding, below_action_limits}
use Rattle.steps.specs.Transition.{enter, schedule_action, update_one, tally_a, tally_b, update_counters, update_counter, finish, transition_by}
use Rattle.steps.specs.Events.{Tables, each, no_runtime, counts_after, blocked_for, totals_after, turn, machine_turn, process_event, signals}
use Rattle.steps.specs.Framework.{start_limit, open_machine, opening, states_fit, ended_in, fits_tables, kinds_fit, events_fit, batch_refusal, trigger_events, action_rows, Batch, batch}
use Rattle.steps.specs.Example.{state_with, pair_first, pair_count, quarter32, one32, ten64, f32}
use Rattle.steps.specs.declared.Framework.{Framework}
use Rattle.steps.specs.declared.Opened.{Opened}

abbrev tables : Tables
tables = record {
  machines = 0 ∷ 0 ∷ 0 ∷ 0 ∷ 0 ∷ 1 ∷ [];
  states = state_with (
      (action, send_padding) ∷ (timeout, 1) ∷ (timeout + 1, ten64) ∷ (timeout + 2, ten64)
      ∷ (pair_first normal_sent, 0) ∷ (pair_count normal_sent, 1) ∷ []
      );
  transitions = 0 ∷ one32 ∷ [];
}

-- the framework after `normal` packets, at this time
abbrev after : (time normal : ℕ) → Framework
after time normal = record {
  machines = 1;
  ended = 0;
  current_time = time;
  signal_pending = 0;
  fixed = record { max_padding_frac = zero_f; max_blocking_frac = zero_f; framework_start = 0 };
  totals = record {
    normal_sent_packets = normal;
    padding_sent_packets = 0;
    blocking_duration = 0;
    blocking_started = 0;
    blocking_active = 0;
  };
  runtime =
      record {
        current_state = 0;
        state_limit = state_limit_max;
        counts = record { padding_sent = 0; normal_sent = normal; blocking_duration = 0 };
        machine_start = 0;
        allowed_blocked_microsec = 0;
        counters = record { counter_a = 0; counter_b = 0 };
      } ∷ replicate 15 no_runtime;
}

abbrev accepted : Opened
accepted = record { refusal = 0; chance_used = 0; value_used = 0; framework = after 0 0 }

-- one action: machine 0, kind 2, no flags, no timer, timeout 10, no duration; the words after it stay
abbrev answered : Batch
answered = record {
  answer = record { refusal = 0; actions = 1; chance_used = 1; value_used = 0; framework = after 5 1 };
  out = 0 ∷ 2 ∷ 0 ∷ 0 ∷ 10 ∷ 0 ∷ 9 ∷ [];
}

pub opens : opening tables zero_f zero_f 0 (tapes [] []) ≡ accepted
unfolding
    opening fractions_refusal is_fraction valid_uniform tables_refusal or_else first_refusal whole_tables
    machine_refusal beyond_fraction states_refusal each_state state_refusal events_refusal pair_refusal
    row_refusal sum_refusal transition_refusal is_target improbable seen_in sum_from codes_unknown
    action_unknown common_unknown needed_unknown counter_unknown dists_invalid action_invalid counter_invalid
    invalid validate dist_at dist_type is_finite rows_of open_machine start_limit sample_limit has_limit each
    of_bits lt le add sub
opens = refl

pub runs : batch (after 0 0) tables 5 (normal_sent ∷ 0 ∷ []) (tapes (f32 quarter32 ∷ []) []) (replicate 7 9) ≡ answered
unfolding
    valid_uniform batch batch_refusal fits_tables states_fit ended_in events_fit kinds_fit tables_refusal or_else
    first_refusal whole_tables machine_refusal beyond_fraction states_refusal each_state state_refusal
    events_refusal pair_refusal row_refusal sum_refusal transition_refusal is_target improbable seen_in
    sum_from codes_unknown action_unknown common_unknown needed_unknown counter_unknown dists_invalid
    action_invalid counter_invalid invalid validate dist_at dist_type is_finite rows_of each of_bits lt le add
    sub trigger_events process_event totals_after blocked_for machine_turn turn counts_after event_of transition_by
    chance_draw sample_state walk enter update_counter update_counters tally_a tally_b update_one below_action_limits below_limit_padding
    below_fraction finish schedule_action sample_timeout sample_duration sample dist_sample uniform_draw eq
    adjusted capped or_zero round_away signals action_rows
runs = refl
