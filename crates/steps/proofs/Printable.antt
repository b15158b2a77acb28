-- What the printed run prints of a batch's rows is bounded, so that its columns are wide enough: the words of every row that a batch
-- writes, and how many it writes. Its refusals are in `Refusals`. Assumes nothing.
use Rattle.std.specs.Prelude.{ℕ, ◌+◌, ◌*◌, ◌/◌, ◌%◌, ◌≤◌, ◌<◌, min, true, false, Option, Some, None, List, ◌≡◌, T, eqb, get_or, drop}
use Rattle.std.proofs.Common.{le_trans, le_of_eq, arith, sym, ap, ◌∙◌, subst, lit<, get_or-drop, eqb-true, eq-eqb}
use Rattle.std.proofs.lemmas.Bool.{false≢true, eqb-false}
use Rattle.machine.specs.Constants.{machine_max, flags, max_sampled_timeout, max_sampled_duration, cancel, send_padding, update_timer}
use Rattle.machine.specs.Source.{Source}
use Rattle.machine.specs.declared.source.Place.{Place}
use Rattle.samples.specs.Action.{action_of}
use Rattle.tables.specs.Valid.{KnownAction}
use Rattle.steps.specs.Limits.{below_action_limits}
use Rattle.steps.specs.Transition.{no_action, returned_flags, returned_timer}
use Rattle.steps.specs.Events.{Tables, num_machines, env_of}
use Rattle.steps.specs.Framework.{rows_in, fits_tables, trigger_events, accepted, batch}
use Rattle.steps.specs.Runs.{by_test, OutcomeOk, ok_any, batch_ok}
use Rattle.steps.specs.Draws.{Gives}
use Rattle.steps.specs.Walk.{row_of}
use Rattle.steps.specs.Machines.{InRun}
use Rattle.steps.proofs.Fits.{fits_says, inside_in, run_inside, checked}
use Rattle.steps.proofs.Rows.{row_words, RowOf, rows_most, rows_are}
use Rattle.steps.specs.Targets.{in_state, Passed, valid_state}
use Rattle.steps.specs.declared.MachineRuntime.{MachineRuntime}
use Rattle.steps.specs.declared.Context.{Context}
use Rattle.steps.specs.declared.Framework.{Framework}
use Rattle.steps.specs.declared.TriggerAction.{TriggerAction}

-- ---- an action
pub record Small (a : TriggerAction) : Type 0 where
  pub some : 0 < a.kind
  pub kind : a.kind ≤ 4
  pub flags : a.flags ≤ 3
  pub timer : a.timer ≤ 2
  pub timeout : a.timeout ≤ max_sampled_timeout
  pub duration : a.duration ≤ max_sampled_duration

-- a pending one
abbrev pub SmallPending : Option TriggerAction → Type 0
SmallPending None = Unit
SmallPending (Some a) = Small a

none_small : SmallPending no_action
none_small = tt

-- a state without an action sets none
has_action : (c : Context) (r : MachineRuntime) (row : List ℕ) → below_action_limits c r row ≡ true → action_of row ≡ 0 → ⊥
has_action c r row h e = false≢true (sym (none e) ∙ h)
  where
    none : action_of row ≡ 0 → below_action_limits c r row ≡ false
    none e = unfold below_action_limits in rw (eq-eqb (action_of row) 0 e)

-- so the kind of a scheduled action is never 0
pub scheduled_some : (c : Context) (r : MachineRuntime) (row : List ℕ) → below_action_limits c r row ≡ true
    → (a : TriggerAction) → Gives row a → a.kind ≡ 0 → ⊥
scheduled_some c r row h a g e = has_action c r row h (sym g.kind ∙ e)

module _ (row : List ℕ) (known : KnownAction row) (some : action_of row ≡ 0 → ⊥) where
  flags-small : returned_flags row ≤ 3
  flags-small =
      by_test (λ z. z ≤ 3) (eqb (action_of row) cancel) 0 _ (λ e. omega arith)
      (λ e. by_test (λ z. z ≤ 3) (eqb (action_of row) update_timer) _ _ (λ f. half (get_or row flags 0))
      (λ f. known.flags (second (action_of row) some (eqb-false (action_of row) cancel e))))
    where
      half : (w : ℕ) → w / 2 % 2 * 2 ≤ 3
      half w = omega arith

      second : (a : ℕ) → (a ≡ 0 → ⊥) → (a ≡ cancel → ⊥) → send_padding ≤ a
      second a z c = omega arith

  timer-small : returned_timer row ≤ 2
  timer-small =
      by_test (λ z. z ≤ 2) (eqb (action_of row) cancel) _ 0 (λ e. known.timer (eqb-true (action_of row) cancel e)) (λ e. omega arith)

  row_small : (a : TriggerAction) → Gives row a → Small a
  row_small a g = record {
    some = above (λ e. some (sym g.kind ∙ e));
    kind = le_trans (le_of_eq g.kind) known.action;
    flags = le_trans (le_of_eq g.flags) flags-small;
    timer = le_trans (le_of_eq g.timer) timer-small;
    timeout = g.timeout;
    duration = g.duration;
  }
    where
      above : (a.kind ≡ 0 → ⊥) → 0 < a.kind
      above h = omega (arith, h)

-- ---- a run over valid tables: the pending actions are small
run_small : (tables : Tables) (D : Source Place) → Passed tables → (time : ℕ) (es : List ℕ) (fw : Framework) → T (fits_tables tables fw)
    → OutcomeOk (λ n. Unit) (InRun (inside_in SmallPending tables) (rows_in tables.machines)) (trigger_events tables D time es fw)
run_small tables D valid time es fw t =
    run_inside SmallPending tables D valid none_small
    (λ fw' i h r a v l below g.
    row_small (row_of (env_of tables D fw' i) r)
    (valid_state tables valid i h r.current_state (in_state r v l)).codes.action
    (has_action (env_of tables D fw' i).context r (row_of (env_of tables D fw' i) r) below) a g)
    time es fw (fits_says tables fw t)

-- ---- a row of six words, as a line of the printed run has it
pub record RowBounds (row : List ℕ) : Type 0 where
  pub machine : get_or row 0 0 < 16
  pub some : 0 < get_or row 1 0
  pub kind : get_or row 1 0 ≤ 4
  pub flags : get_or row 2 0 ≤ 3
  pub timer : get_or row 3 0 ≤ 2
  pub timeout : get_or row 4 0 ≤ 86400000000
  pub duration : get_or row 5 0 ≤ 86400000000

row_bounds : (actions : List (Option TriggerAction)) (n : ℕ) → n ≤ 16 → ((i : ℕ) → i < n → SmallPending (get_or actions i no_action))
    → (out : List ℕ) (j : ℕ) → RowOf actions n out j → RowBounds (drop (6 * j) out)
row_bounds actions n most small out j r = record {
  machine = subst (λ (w : ℕ). w < 16) (sym (word 0 (lit< tt))) (below r.machine r.known);
  some = subst (λ (w : ℕ). 0 < w) (sym (word 1 (lit< tt))) a.some;
  kind = bound 1 (lit< tt) a.kind;
  flags = bound 2 (lit< tt) a.flags;
  timer = bound 3 (lit< tt) a.timer;
  timeout = bound 4 (lit< tt) a.timeout;
  duration = bound 5 (lit< tt) a.duration;
}
  where
    a : Small r.action
    a = subst SmallPending r.pending (small r.machine r.known)

    below : (m : ℕ) → m < n → m < 16
    below m h = omega (arith, most)

    word : (k : ℕ) → k < 6 → get_or (drop (6 * j) out) k 0 ≡ get_or (row_words r.machine r.action) k 0
    word k l = get_or-drop (6 * j) out k 0 ∙ ap (λ (m : ℕ). get_or out (m + k) 0) six ∙ r.word k l
      where
        six : 6 * j ≡ j * 6
        six = omega arith

    bound : (k : ℕ) (l : k < 6) {m : ℕ} → get_or (row_words r.machine r.action) k 0 ≤ m
        → get_or (drop (6 * j) out) k 0 ≤ m
    bound k l h = le_trans (le_of_eq (word k l)) h

most : (m : ℕ) → min m machine_max ≤ 16
most m = omega arith

-- ---- THEOREM: the bounds hold of each row that a batch writes, row j from word 6 * j on, and it writes at most 16. A refused batch
-- writes none.
pub rows_bounded : (fw : Framework) (tables : Tables) (time : ℕ) (es : List ℕ) (D : Source Place) (out : List ℕ) (j : ℕ)
    → j < (batch fw tables time es D out).answer.actions → RowBounds (drop (6 * j) (batch fw tables time es D out).out)
rows_bounded fw tables time es D out j =
    batch_ok (λ n. Unit) (InRun (inside_in SmallPending tables) (rows_in tables.machines))
    (λ b. j < b.answer.actions → RowBounds (drop (6 * j) b.out)) fw tables time es D out
    (λ e. let c = checked fw tables es out e in run_small tables D c.0 time es fw c.1)
    (λ e h. absurd (none h)) (λ e n r h. absurd (none h))
    (λ e x v h. row_bounds x.actions (num_machines x.framework) (most x.framework.machines)
    (λ i l. v.acts i (subst (λ (n : ℕ). i < n) v.machines l)) (accepted x out).out j
    (rows_are x.actions (num_machines x.framework) out j h))
  where
    none : j < 0 → ⊥
    none h = omega arith

pub rows_few : (fw : Framework) (tables : Tables) (time : ℕ) (es : List ℕ) (D : Source Place) (out : List ℕ)
    → (batch fw tables time es D out).answer.actions ≤ 16
rows_few fw tables time es D out =
    batch_ok (λ n. Unit) (λ x. Unit) (λ b. b.answer.actions ≤ 16) fw tables time es D out
    (λ e. ok_any (trigger_events tables D time es fw)) (λ e. omega arith) (λ e n r. omega arith)
    (λ e x q. le_trans (rows_most x.actions (num_machines x.framework)) (most x.framework.machines))
