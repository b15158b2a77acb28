-- action.rs: the timeout, duration and limit that a state's action draws.
use Rattle.std.specs.Prelude.{ℕ, min, List, Bool, cond, not, ◌&&◌, ◌||◌, get_or, eqb, Result}
use Rattle.numbers.specs.Round.{round_away}
use Rattle.machine.specs.Constants.{action, timeout, duration, limit, send_padding, block_outgoing, update_timer, max_sampled_timeout, max_sampled_duration, state_limit_max}
use Rattle.machine.specs.Source.{Values}
use Rattle.machine.specs.declared.source.Place.{Place}
use Rattle.dists.specs.Dist.{dist_at, sample, got_whole, whole_of}
use Rattle.machine.specs.declared.source.Draw.{Draw}

-- The code of a state row's action; 0 is none.
abbrev pub action_of : List ℕ → ℕ
action_of row = get_or row action 0

abbrev pub has_timeout : List ℕ → Bool
has_timeout row = eqb (action_of row) send_padding || eqb (action_of row) block_outgoing

abbrev pub has_duration : List ℕ → Bool
has_duration row = eqb (action_of row) block_outgoing || eqb (action_of row) update_timer

-- every action but Cancel may have a limit
abbrev pub may_limit : List ℕ → Bool
may_limit row = eqb (action_of row) send_padding || eqb (action_of row) block_outgoing || eqb (action_of row) update_timer

-- The sample of the distribution at word k: the nearest whole number, halves away from zero, at most `most`. (The Rust takes the
-- smaller before it rounds: the same, since `most` is a whole number.)
abbrev pub sample_rounded : List ℕ → ℕ → ℕ → Values Place → Place → Result (Draw ℕ) ℕ
sample_rounded row k most values at = whole_of (λ x. min (round_away x) most) (sample (dist_at row k) values at)

-- Action::sample_timeout: rounded, at most a day; no draw for an action without a timeout
unfoldable pub sample_timeout : List ℕ → Values Place → Place → Result (Draw ℕ) ℕ
sample_timeout row values at =
    cond (has_timeout row) (sample_rounded row timeout max_sampled_timeout values at) (got_whole 0 at)

-- Action::sample_duration
unfoldable pub sample_duration : List ℕ → Values Place → Place → Result (Draw ℕ) ℕ
sample_duration row values at =
    cond (has_duration row) (sample_rounded row duration max_sampled_duration values at) (got_whole 0 at)

-- Action::has_limit
unfoldable pub has_limit : List ℕ → Bool
has_limit row = may_limit row && not (eqb (get_or row limit 0) 0)

-- Action::sample_limit, and STATE_LIMIT_MAX for a state without an action: the same rounding, capped at the largest u64.
unfoldable pub sample_limit : List ℕ → Values Place → Place → Result (Draw ℕ) ℕ
sample_limit row values at = cond (has_limit row) (whole_of round_away (sample (dist_at row limit) values at)) (got_whole state_limit_max at)
