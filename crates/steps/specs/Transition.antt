-- framework.rs: one machine's transition with its counter update, the action that it schedules, and the fall of its state limit
-- (transition, update_counter, schedule_action, decrement_limit). One machine goes in and comes back: no step touches another.
use Rattle.std.specs.Prelude.{Float}
use Rattle.std.specs.Prelude.{Result, Ok, Err, Option, Some, None}
use Rattle.std.specs.Option.{is_none}
use Rattle.machine.specs.declared.source.Draw.{Draw}
use Rattle.steps.specs.declared.Step.{Step}
use Rattle.std.specs.Prelude.{ℕ, zero, suc, ◌+◌, ◌-◌, ◌*◌, ◌/◌, ◌%◌, List, [], ◌∷◌, Bool, true, false, cond, not, ◌&&◌, ◌||◌, get_or, eqb}
use Rattle.machine.specs.Source.{Values, Source, draw, chance_draw}
use Rattle.machine.specs.declared.source.Place.{Place}
use Rattle.numbers.specs.Saturating.{saturating_add}
use Rattle.machine.specs.Constants.{timer, counter_a, counter_b, counter_num, cancel, update_timer, increment, decrement, state_end, state_signal}
use Rattle.machine.specs.Event.{limit_reached, counter_zero}
use Rattle.machine.specs.State.{state_row, first_of, count_of, sample_state}
use Rattle.samples.specs.Action.{action_of, sample_timeout, sample_duration, sample_limit, has_limit}
use Rattle.samples.specs.Counter.{sample_value}
use Rattle.dists.specs.Dist.{got_whole}
use Rattle.steps.specs.Limits.{flags_of, below_action_limits}
use Rattle.steps.specs.declared.MachineRuntime.{MachineRuntime}
use Rattle.steps.specs.declared.Context.{Context}
use Rattle.steps.specs.declared.Env as Lent
use Rattle.steps.specs.declared.Shared.{Shared}
use Rattle.steps.specs.declared.Counters.{Counters}
use Rattle.steps.specs.declared.Zeroed.{Zeroed}
use Rattle.steps.specs.declared.Tally.{Tally}
use Rattle.steps.specs.declared.TriggerAction.{TriggerAction}
use Rattle.steps.specs.declared.Counter.{Counter}
use Rattle.steps.specs.declared.Update.{Update}

-- What a machine's steps read and do not change: its own part of the state table, the transition table, the source of its draws, and
-- its context.
pub record Env : Type 0 where
  pub rows : List ℕ
  pub transitions : List ℕ
  pub source : Source Place
  pub context : Context

abbrev pub env : List ℕ → List ℕ → Source Place → Context → Env
env rows transitions source context = record {
  rows = rows;
  transitions = transitions;
  source = source;
  context = context;
}

-- what the code is lent, by what its source of draws is
abbrev pub lent_env : {D : Type 0} → (D → Source Place) → Lent.Env D → Env
lent_env source e = env e.rows.now e.transitions.now (source e.draws.now) e.context

-- ---- records with some fields new; antt has no record update
abbrev pub no_action : Option TriggerAction
no_action = None

abbrev pub with_state : MachineRuntime → ℕ → ℕ → MachineRuntime
with_state r state limit = record {
  current_state = state;
  state_limit = limit;
  counts = r.counts;
  machine_start = r.machine_start;
  allowed_blocked_microsec = r.allowed_blocked_microsec;
  counters = r.counters;
}

abbrev pub with_counters : MachineRuntime → Counters → MachineRuntime
with_counters r counters = record {
  current_state = r.current_state;
  state_limit = r.state_limit;
  counts = r.counts;
  machine_start = r.machine_start;
  allowed_blocked_microsec = r.allowed_blocked_microsec;
  counters = counters;
}

-- where the source goes on
abbrev pub with_place : Shared → Place → Shared
with_place s at = record { signal_pending = s.signal_pending; place = at; zeroed = s.zeroed }

abbrev pub with_signal : Shared → ℕ → Shared
with_signal s pending = record { signal_pending = pending; place = s.place; zeroed = s.zeroed }

-- after the counters
abbrev pub with_tally : Shared → Tally → Shared
with_tally s t = record { signal_pending = s.signal_pending; place = t.place; zeroed = t.zeroed }

abbrev pub done : MachineRuntime → Shared → Option TriggerAction → Bool → Result Step ℕ
done r s p changed = Ok (record { runtime = r; shared = s; action = p; changed = changed })

-- ---- entering a state: another one draws its limit, or sets the largest; the same one keeps what is left of it
abbrev pub entered_with : MachineRuntime → ℕ → Result (Draw ℕ) ℕ → Result (Draw MachineRuntime) ℕ
entered_with r state (Err n) = Err n
entered_with r state (Ok w) = Ok (draw (with_state r state w.value) w.at)

unfoldable pub enter : List ℕ → Values Place → MachineRuntime → ℕ → Place → Result (Draw MachineRuntime) ℕ
enter row values r state at = cond (eqb r.current_state state) (Ok (draw r at)) (entered_with r state (sample_limit row values at))

-- ---- a raised signal leaves out its sender, unless one was raised before
unfoldable pub raise : ℕ → ℕ → ℕ
raise pending machine = cond (eqb pending 0) (2 + machine) 1

-- ---- schedule_action: the timeout is drawn before the duration. Cancel returns its timer, UpdateTimer of its flags replace alone.
abbrev pub returned_flags : List ℕ → ℕ
returned_flags row = cond (eqb (action_of row) cancel) 0 (cond (eqb (action_of row) update_timer) (flags_of row / 2 % 2 * 2) (flags_of row))

abbrev pub returned_timer : List ℕ → ℕ
returned_timer row = cond (eqb (action_of row) cancel) (get_or row timer 0) 0

abbrev pub with_duration : List ℕ → ℕ → Result (Draw ℕ) ℕ → Result (Draw TriggerAction) ℕ
with_duration row timeout (Err n) = Err n
with_duration row timeout (Ok w) =
    Ok (draw (record { kind = action_of row; flags = returned_flags row; timer = returned_timer row; timeout = timeout; duration = w.value }) w.at)

abbrev pub with_timeout : List ℕ → Values Place → Result (Draw ℕ) ℕ → Result (Draw TriggerAction) ℕ
with_timeout row values (Err n) = Err n
with_timeout row values (Ok w) = with_duration row w.value (sample_duration row values w.at)

unfoldable pub schedule_action : List ℕ → Values Place → Place → Result (Draw TriggerAction) ℕ
schedule_action row values at = with_timeout row values (sample_timeout row values at)

-- ---- one counter of update_counter, which begins at word k of the row
-- Counter::operation: Increment, Decrement, or Set
unfoldable pub applied : ℕ → ℕ → ℕ → ℕ
applied operation old change =
    cond (eqb operation increment) (saturating_add old change) (cond (eqb operation decrement) (old - change) change)

-- it reports where it reaches zero from another value, once in a call
abbrev pub reports_zero : ℕ → ℕ → Bool → Bool
reports_zero old value zeroed = not (eqb old 0) && eqb value 0 && not zeroed

abbrev pub counter_of : Bool → ℕ → Bool → Place → Result Counter ℕ
counter_of reports value zeroed at = Ok (record { value = value; zeroed = zeroed || reports; reports = reports; at = at })

abbrev pub changed_by : ℕ → ℕ → Bool → Result (Draw ℕ) ℕ → Result Counter ℕ
changed_by operation old zeroed (Err n) = Err n
changed_by operation old zeroed (Ok w) =
    counter_of (reports_zero old (applied operation old w.value) zeroed) (applied operation old w.value) zeroed w.at

-- it changes by the other counter's value from before the update where copy is set, and else by a sample
abbrev pub change_of : List ℕ → ℕ → Values Place → Place → ℕ → Result (Draw ℕ) ℕ
change_of row k values at other = cond (eqb (get_or row (k + 1) 0) 1) (got_whole other at) (sample_value row k values at)

unfoldable pub update_one : List ℕ → ℕ → Values Place → Place → ℕ → ℕ → Bool → Result Counter ℕ
update_one row k values at old other zeroed =
    cond (eqb (get_or row k 0) 0) (counter_of false old zeroed at)
    (changed_by (get_or row k 0) old zeroed (change_of row k values at other))

-- ---- the counters of a row, each updated by the values from before
abbrev pub tallied : (Counter → Tally) → Result Counter ℕ → Result Tally ℕ
tallied f (Err n) = Err n
tallied f (Ok c) = Ok (f c)

abbrev pub with_a : Tally → Counter → Tally
with_a t c = record {
  counters = record { counter_a = c.value; counter_b = t.counters.counter_b };
  place = c.at;
  zeroed = record { counter_a = c.zeroed; counter_b = t.zeroed.counter_b };
  reports = t.reports || c.reports;
}

abbrev pub with_b : Tally → Counter → Tally
with_b t c = record {
  counters = record { counter_a = t.counters.counter_a; counter_b = c.value };
  place = c.at;
  zeroed = record { counter_a = t.zeroed.counter_a; counter_b = c.zeroed };
  reports = t.reports || c.reports;
}

-- A copies B, and B copies A
unfoldable pub tally_a : List ℕ → Values Place → Counters → Tally → Result Tally ℕ
tally_a row values old t =
    tallied (with_a t) (update_one row counter_a values t.place old.counter_a old.counter_b t.zeroed.counter_a)

unfoldable pub tally_b : List ℕ → Values Place → Counters → Tally → Result Tally ℕ
tally_b row values old t =
    tallied (with_b t) (update_one row counter_b values t.place old.counter_b old.counter_a t.zeroed.counter_b)

-- the order of their update
abbrev pub counter_steps : List ℕ → Values Place → Counters → List (Tally → Result Tally ℕ)
counter_steps row values old = tally_a row values old ∷ tally_b row values old ∷ []

abbrev pub and_tally : Result Tally ℕ → (Tally → Result Tally ℕ) → Result Tally ℕ
and_tally (Err n) f = Err n
and_tally (Ok t) f = f t

abbrev pub tally_each : List (Tally → Result Tally ℕ) → Tally → Result Tally ℕ
tally_each [] t = Ok t
tally_each (f ∷ fs) t = and_tally (f t) (tally_each fs)

abbrev pub untallied : Counters → Zeroed → Place → Tally
untallied counters zeroed at = record { counters = counters; place = at; zeroed = zeroed; reports = false }

unfoldable pub update_counters : List ℕ → Values Place → Counters → Zeroed → Place → Result Tally ℕ
update_counters row values old zeroed at = tally_each (counter_steps row values old) (untallied old zeroed at)

-- ---- after the counters: the action is scheduled where the limits were not reached before the counter update, and where a
-- CounterZero left the machine none; out of the state and back is a change
abbrev pub has_changed : ℕ → Update → Bool
has_changed before u = u.state_changed || not (eqb before u.runtime.current_state)

abbrev pub scheduled_step : Update → Bool → Result (Draw TriggerAction) ℕ → Result Step ℕ
scheduled_step u changed (Err n) = Err n
scheduled_step u changed (Ok d) = done u.runtime (with_place u.shared d.at) (Some d.value) changed

unfoldable pub finish : List ℕ → Values Place → ℕ → Bool → Update → Result Step ℕ
finish row values before below u =
    cond (u.allow_schedule && below)
    (scheduled_step u (has_changed before u) (schedule_action row values u.shared.place))
    (done u.runtime u.shared u.action (has_changed before u))

abbrev pub finished : List ℕ → Values Place → ℕ → Bool → Result Update ℕ → Result Step ℕ
finished row values before below (Err n) = Err n
finished row values before below (Ok u) = finish row values before below u

-- ---- after a CounterZero the outer action is set only if the machine has none yet, one from an earlier event included
abbrev pub after_zero : Result Step ℕ → Result Update ℕ
after_zero (Err n) = Err n
after_zero (Ok d) =
    Ok (record { runtime = d.runtime; shared = d.shared; action = d.action; allow_schedule = is_none d.action; state_changed = d.changed })

-- the machine with its counters' new values
abbrev pub counted : MachineRuntime → Shared → Option TriggerAction → Tally → Update
counted r s p t = record {
  runtime = with_counters r t.counters;
  shared = with_tally s t;
  action = p;
  allow_schedule = true;
  state_changed = false;
}

-- ---- transition and update_counter, given what a CounterZero transition does
module _ (zero_transition : MachineRuntime → Shared → Option TriggerAction → Result Step ℕ) (E : Env) where
  abbrev pub after_counters : MachineRuntime → Shared → Option TriggerAction → Result Tally ℕ → Result Update ℕ
  after_counters r s p (Err n) = Err n
  after_counters r s p (Ok t) =
      cond t.reports (after_zero (zero_transition (with_counters r t.counters) (with_tally s t) p)) (Ok (counted r s p t))

  -- update_counter, of the row of the machine's state
  unfoldable pub update_counter : List ℕ → MachineRuntime → Shared → Option TriggerAction → Result Update ℕ
  update_counter row r s p = after_counters r s p (update_counters row E.source.values r.counters s.zeroed s.place)

  -- in the next state: limits are judged before the counters
  abbrev pub entering : List ℕ → ℕ → Shared → Option TriggerAction → Result (Draw MachineRuntime) ℕ → Result Step ℕ
  entering row before s p (Err n) = Err n
  entering row before s p (Ok d) =
      finished row E.source.values before (below_action_limits E.context d.value row) (update_counter row d.value (with_place s d.at) p)

  -- END is a change and neither sets nor clears an action; SIGNAL is no change
  abbrev pub going : MachineRuntime → Shared → Option TriggerAction → Option ℕ → Result Step ℕ
  going r s p None = done r s p false
  going r s p (Some next) =
      cond (eqb next state_end) (done (with_state r state_end r.state_limit) s p true)
      (cond (eqb next state_signal) (done r (with_signal s (raise s.signal_pending E.context.machine)) p false)
      (entering (state_row E.rows next) r.current_state s p
      (enter (state_row E.rows next) E.source.values r next s.place)))

  abbrev pub drawn : List ℕ → ℕ → MachineRuntime → Shared → Option TriggerAction → Result (Draw Float) ℕ → Result Step ℕ
  drawn row event r s p (Err n) = Err n
  drawn row event r s p (Ok d) =
      going r (with_place s d.at) p (sample_state E.transitions (first_of row event) (count_of row event) d.value)

  -- a machine that has ended does nothing; without a row for the event nothing is drawn
  abbrev pub choosing : ℕ → MachineRuntime → Shared → Option TriggerAction → Result Step ℕ
  choosing event r s p =
      cond (eqb r.current_state state_end) (done r s p false)
      (cond (eqb (count_of (state_row E.rows r.current_state) event) 0) (done r s p false)
      (drawn (state_row E.rows r.current_state) event r s p (chance_draw E.source.chance s.place)))

  -- transition: the attempt is told to the source
  unfoldable pub transition_by : ℕ → MachineRuntime → Shared → Option TriggerAction → Result Step ℕ
  transition_by event r s p =
      choosing event r (with_place s (E.source.attempt event E.context.machine s.place)) p

-- ---- the recursion falls with the number of counters that may still report zero in this call
abbrev pub unspent : Bool → ℕ
unspent zeroed = cond zeroed 0 1

abbrev pub left : Shared → ℕ
left s = unspent s.zeroed.counter_a + unspent s.zeroed.counter_b

-- the CounterZero transition where n counters may still report; with none left it is never met
unfoldable pub zero_transition : ℕ → Env → MachineRuntime → Shared → Option TriggerAction → Result Step ℕ
zero_transition zero E r s p = done r s p false
zero_transition (suc n) E r s p = transition_by (zero_transition n E) E counter_zero r s p

abbrev pub transition_at : ℕ → Env → ℕ → MachineRuntime → Shared → Option TriggerAction → Result Step ℕ
transition_at n E = transition_by (zero_transition n E) E

abbrev pub update_counter_at : ℕ → Env → List ℕ → MachineRuntime → Shared → Option TriggerAction → Result Update ℕ
update_counter_at n E = update_counter (zero_transition n E) E

-- transition: each counter reports once at the most
abbrev pub transition : Env → ℕ → MachineRuntime → Shared → Option TriggerAction → Result Step ℕ
transition E = transition_at counter_num E

-- ---- decrement_limit: the state limit falls by 1, not below 0. At 0, where the action has a limit, the pending action goes and
-- LimitReached follows.
unfoldable pub decrement_limit : Env → MachineRuntime → Shared → Option TriggerAction → Result Step ℕ
decrement_limit E r s p =
    cond (eqb (r.state_limit - 1) 0 && has_limit (state_row E.rows r.current_state))
    (transition E limit_reached (with_state r r.current_state (r.state_limit - 1)) s no_action)
    (done (with_state r r.current_state (r.state_limit - 1)) s p false)
