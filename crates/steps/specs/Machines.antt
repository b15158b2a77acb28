-- The walk over all machines of a run: what each machine's steps keep, an opening and a batch keep. Assumes nothing.
use Rattle.machine.specs.Source.{draw}
use Rattle.std.specs.Prelude.{Ok}
use Rattle.std.specs.Prelude.{Result, Err, Option}
use Rattle.machine.specs.declared.source.Draw.{Draw}
use Rattle.steps.specs.declared.Step.{Step}
use Prim.Native.Nat.{ℕ, zero, suc, ◌<◌}
use Rattle.std.proofs.Math.Decide.{ℕ_discrete}
use mathlib.Core.List.{List}
use Rattle.std.specs.Prelude.{◌≡◌, eqb, Float, get_or, set, replicate}
use Rattle.std.proofs.Common.{sym, subst, get_or-set_other}
use Rattle.machine.specs.Constants.{machine_max, allowed_blocked_microsec}
use Rattle.machine.specs.Event.{signal}
use Rattle.machine.specs.Source.{Source}
use Rattle.machine.specs.State.{state_row}
use Rattle.machine.specs.declared.source.Place.{Place}
use Rattle.samples.specs.Action.{action_of}
use Rattle.steps.specs.Transition.{no_action, transition}
use Rattle.steps.specs.Events.{Tables, Outcome, num_machines, no_runtime, runtime_at, machine_word, states_of, env_of, stored, with_counts, limit_falls, turn, machine_turn, pending_of, signal_machine}
use Rattle.steps.specs.declared.Run.{Run}
use Rattle.steps.specs.Framework.{shared_from, no_actions, new_framework, new_runtime, start_limit, opened_with, open_machine, opened, open_turn, rows_in, open_run, trigger_events}
use Rattle.steps.specs.Runs.{either, stored_at, OutcomeOk, turns_ok, event_kept, run_kept}
use Rattle.steps.specs.Draws.{Refuses, WholeOk, limit_ok}
use Rattle.steps.specs.Walk.{Kept, Closed, Stays, transition_kept, turn_kept}
use Rattle.steps.specs.declared.MachineRuntime.{MachineRuntime}
use Rattle.steps.specs.declared.Counts.{Counts}
use Rattle.steps.specs.declared.Framework.{Framework}
use Rattle.steps.specs.declared.TriggerAction.{TriggerAction}

-- ---- the opening: what holds before the machines are in, and goes on to hold as each comes in with some limit
abbrev pub open_start : Tables → Float → Float → ℕ → Run
open_start T padding blocking time = record {
  framework = new_framework (rows_in T.machines) padding blocking time;
  actions = no_actions;
  shared = shared_from 0;
}

-- machine i as it comes in
abbrev pub comes_in : Tables → ℕ → ℕ → Place → Run → Outcome
comes_in T i limit at x =
    opened i x (Ok (draw (new_runtime x.framework.current_time (machine_word T.machines i allowed_blocked_microsec) limit) at))

module _ (R : ℕ → Type 0) (P : Run → Type 0) (T : Tables) (D : Source Place) (refuses : Refuses R D)
    (comes : (i limit : ℕ) (at : Place) (x : Run) → P x → OutcomeOk R P (comes_in T i limit at x)) where
  open-turn-kept : (i : ℕ) (x : Run) → P x → OutcomeOk R P (open_turn T D i x)
  unfolding open_machine start_limit
  open-turn-kept i x p =
      with (start_limit row D.values x.shared.place)
      (either (WholeOk R (λ v. Unit)) (eqb (action_of row) 0) _ _ tt (limit_ok R D refuses row x.shared.place))
    where
      row : List ℕ
      row = state_row (states_of T i) 0

      with : (w : Result (Draw ℕ) ℕ) → WholeOk R (λ v. Unit) w
          → OutcomeOk R P (opened i x (opened_with x.framework.current_time (machine_word T.machines i allowed_blocked_microsec) w))
      with (Err n) o = o
      with (Ok w) o = comes i w.value w.at x p

  pub opening_kept : (padding blocking : Float) (time : ℕ) → P (open_start T padding blocking time)
      → OutcomeOk R P (open_run T padding blocking time D)
  opening_kept padding blocking time p =
      turns_ok R P (open_turn T D) (rows_in T.machines) 0 (λ i a b. open-turn-kept i) (open_start T padding blocking time) p

-- ---- What a run keeps: for each machine what its own steps keep, and of all of them the pending signal and the refusals.
pub record Family : Type 1 where
  pub RefusedBy : ℕ → Type 0
  pub Machine : ℕ → MachineRuntime → Type 0
  pub Action : ℕ → Option TriggerAction → Type 0
  pub Signal : ℕ → Type 0

abbrev pub member : Family → ℕ → Kept
member F i = record { RefusedBy = F.RefusedBy; Machine = F.Machine i; Action = F.Action i; Signal = F.Signal }

-- it holds of the M machines of a run
pub record InRun (F : Family) (M : ℕ) (x : Run) : Type 0 where
  pub machines : num_machines x.framework ≡ M
  pub each : (i : ℕ) → i < M → F.Machine i (runtime_at x.framework i)
  pub acts : (i : ℕ) → i < M → F.Action i (get_or x.actions i no_action)
  pub signal : F.Signal (pending_of x)

-- no action is pending where a batch begins
pub none_pending : (P : Option TriggerAction → Type 0) → P no_action → (m i : ℕ) → P (get_or (replicate m no_action) i no_action)
none_pending P h zero i = h
none_pending P h (suc m) zero = h
none_pending P h (suc m) (suc i) = none_pending P h m i

module _ (F : Family) (M : ℕ) where
  open F use {RefusedBy, Machine, Action, Signal}

  -- a machine's step goes back into the run
  store_kept : (x : Run) (k : ℕ) → k < M → InRun F M x → (s : Result Step ℕ) → Stays (member F k) s
      → OutcomeOk RefusedBy (InRun F M) (stored x k s)
  store_kept x k h v (Err n) o = o
  store_kept x k h v (Ok d) o = record {
    machines = v.machines;
    each = λ i l. elim (ℕ_discrete i k) [
      | yes e ↦
          subst (λ (j : ℕ). Machine j (get_or (set x.framework.runtime k d.runtime) j no_runtime)) (sym e)
          (stored_at (Machine k) x.framework.runtime k d.runtime no_runtime o.0 (v.each k h))
      | no e ↦
          subst (Machine i) (sym (get_or-set_other x.framework.runtime k i d.runtime no_runtime e)) (v.each i l)
    ];
    acts = λ i l. elim (ℕ_discrete i k) [
      | yes e ↦
          subst (λ (j : ℕ). Action j (get_or (set x.actions k d.action) j no_action)) (sym e)
          (stored_at (Action k) x.actions k d.action no_action o.1 (v.acts k h))
      | no e ↦ subst (Action i) (sym (get_or-set_other x.actions k i d.action no_action e)) (v.acts i l)
    ];
    signal = o.2;
  }

  module _ (T : Tables) (D : Source Place)
      (closed : (fw : Framework) (i : ℕ) → i < M → Closed (env_of T D fw i) (member F i))
      (counts : (i : ℕ) (r : MachineRuntime) (c : Counts) → Machine i r → Machine i (with_counts r c))
      (none : Signal 0) where
    turn_in : (kind machine blocked k : ℕ) → k < M → (x : Run) → InRun F M x
        → OutcomeOk RefusedBy (InRun F M) (machine_turn T D kind machine blocked k x)
    unfolding machine_turn
    turn_in kind machine blocked k h x v =
        store_kept x k h v
        (turn (env_of T D x.framework k) kind (limit_falls kind machine k) blocked (runtime_at x.framework k) x.shared
        (get_or x.actions k no_action))
        (turn_kept (env_of T D x.framework k) (member F k) (closed x.framework k h) kind (limit_falls kind machine k) blocked
        (runtime_at x.framework k) x.shared (get_or x.actions k no_action)
        (counts k (runtime_at x.framework k) _ (v.each k h)) (v.acts k h) v.signal)

    signal-in : (k : ℕ) → k < M → (x : Run) → InRun F M x → OutcomeOk RefusedBy (InRun F M) (signal_machine T D k x)
    unfolding signal_machine
    signal-in k h x v =
        store_kept x k h v
        (transition (env_of T D x.framework k) signal (runtime_at x.framework k) x.shared (get_or x.actions k no_action))
        (transition_kept (env_of T D x.framework k) (member F k) (closed x.framework k h) signal (runtime_at x.framework k)
        x.shared (get_or x.actions k no_action) (v.each k h) (v.acts k h) v.signal)

    pub batch_kept : (time : ℕ) (es : List ℕ) (fw : Framework) → num_machines fw ≡ M
        → ((i : ℕ) → i < M → Machine i (runtime_at fw i)) → Signal fw.signal_pending
        → OutcomeOk RefusedBy (InRun F M) (trigger_events T D time es fw)
    batch_kept time es fw m each pending =
        run_kept RefusedBy (InRun F M) T D M (λ x v. v.machines)
        (λ x v. record { machines = v.machines; each = v.each; acts = v.acts; signal = none }) signal-in
        (event_kept RefusedBy (InRun F M) T D M (λ x v. v.machines)
        (λ kind x v. record { machines = v.machines; each = v.each; acts = v.acts; signal = v.signal }) turn_in)
        time es fw (record {
          machines = m;
          each = each;
          acts = λ i h. none_pending (Action i) (closed fw i h).clears machine_max i;
          signal = pending;
        })
