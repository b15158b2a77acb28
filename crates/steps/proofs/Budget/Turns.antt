-- An event and the signals keep a run `Live`: turn by turn, in machine order. Assumes nothing.
use Prim.Native.Nat.{ℕ, zero, suc, ◌+◌, ◌^◌, ◌≤◌, ◌<◌}
use Rattle.std.proofs.Common.{le_refl, arith, sym, ◌∙◌, subst}
use Rattle.std.proofs.Math.Logic.{inl}
use Rattle.std.specs.Prelude.{◌≡◌, T, eqb, get_or}
use Rattle.std.proofs.Math.Path.{ap}
use borrow.Author.Tests.{ne_eqb}
use Rattle.numbers.specs.Saturating.{saturating_add}
use Rattle.machine.specs.Source.{Source, Telling}
use Rattle.machine.specs.declared.source.Place.{Place}
use Rattle.machine.specs.Event.{normal_sent, padding_sent, blocking_begin, blocking_end, signal}
use Rattle.steps.specs.Transition.{Env, no_action, transition}
use Rattle.steps.specs.Events.{Outcome, each, num_machines, runtime_at, env_of, blocked_now, totals_after, with_totals, with_blocking, accounted, limit_falls, turn, machine_turn, account, first_for, turns_for, process_event, signal_machine, signals}
use Rattle.steps.specs.declared.Run.{Run}
use Rattle.steps.specs.Limits.{blocking_on}
use Rattle.steps.specs.Runs.{either, OutcomeOk, ok_map, each_ok, turn_range, no_turn, signals_kept}
use Rattle.steps.specs.Walk.{transition_kept, turn_kept}
use Rattle.steps.specs.Budget.{Ledger, count, packets}
use Rattle.steps.proofs.Budget.Invariant.{heard, kind_cases, inv_owned, inv_count}
use Rattle.steps.proofs.Budget.Machine.{Told, kept, closed}
use Rattle.steps.specs.declared.Framework.{Framework}
use Rattle.steps.specs.declared.Totals.{Totals}
use Rattle.steps.proofs.Budget.Counts.{one_more, counted_has, uncounted}
use Rattle.steps.proofs.Budget.Check.{Setup, machines_of, checks}
use Rattle.steps.proofs.Budget.Runs.{Frame, sends, Mid, Why, by_check, store, num_is, Live, mid_live}

module _ (S : Setup) where
  open S use {tables}

  -- ---- an event
  -- an event counts packets as the ledger does; blocking is no part of it
  accounted-frame : (l : Ledger) (machine : ℕ) (fw : Framework) → Frame S l fw → (kind : ℕ)
      → packets (count l kind machine) ≤ 2 ^ 53
      → Frame S (count l kind machine) (accounted kind fw)
  unfolding totals_after
  accounted-frame l machine fw f =
      let Same : Totals → Type 0 = λ t. Frame S l (with_totals fw t) in
      kind_cases (λ kind. packets (count l kind machine) ≤ 2 ^ 53 → Frame S (count l kind machine)
      (accounted kind fw))
      (λ k. record {
        machines = f.machines;
        frac = f.frac;
        normal =
            ap up f.normal ∙ one_more l.normal (l.padding + l.normal) (omega arith)
            (omega arith);
        padding = f.padding;
        room = f.room;
      })
      (λ k. record {
        machines = f.machines;
        frac = f.frac;
        normal = f.normal;
        padding =
            ap up f.padding ∙ one_more l.padding (l.padding + l.normal) (omega arith)
            (omega arith);
        room = f.room;
      })
      (λ kind a b k.
      rw (ne_eqb kind normal_sent a, ne_eqb kind padding_sent b)
      (either Same (eqb kind blocking_begin) _ _ (either Same (blocking_on fw.totals.blocking_active) _ _ f same)
      (either Same (eqb kind blocking_end) _ _ (either Same (blocking_on fw.totals.blocking_active) _ _ same f)
      f)))
    where
      up : ℕ → ℕ
      up z = saturating_add z 1

      same : {d s o : ℕ} → Frame S l (with_totals fw (with_blocking fw.totals d s o))
      same =
          record {
            machines = f.machines;
            frac = f.frac;
            normal = f.normal;
            padding = f.padding;
            room = f.room;
          }

  pub event_ok : (D : Source Place) (tells : Telling D) (l : Ledger) (kind machine : ℕ) (x : Run) → Live S l x
      → (kind ≡ padding_sent → T (l.held machine))
      → packets (count l kind machine) ≤ 2 ^ 53
      → OutcomeOk Told (Live S (count l kind machine)) (process_event tables D kind machine x)
  unfolding process_event
  event_ok D tells l kind machine x (v, s) h small =
      ok_map Told (λ y. (j : ℕ) × P zero j y) (Live S l') (each f n (first_for kind machine) (account kind x))
      (each_ok Told P f step n (first_for kind machine) (account kind x) (range, start))
      (λ y q. mid_live S l l' x y q.0 small (inv_count (checks S) l (sends S x) kind machine v h)
      q.1.1)
    where
      l' : Ledger
      l' = count l kind machine

      n : ℕ
      n = turns_for kind machine (num_machines x.framework)

      f : ℕ → Run → Outcome
      f = machine_turn tables D kind machine (blocked_now x.framework)

      Turns : ℕ → Type 0
      Turns i = (i < machines_of S) × (kind ≡ padding_sent → i ≡ machine)

      P : ℕ → ℕ → Run → Type 0
      P n k y = ((i : ℕ) → k ≤ i → i < k + n → Turns i) × Mid S l l' (sends S x) k n y

      num : num_machines x.framework ≡ machines_of S
      num = num_is S l x.framework s.frame

      range : (i : ℕ) → first_for kind machine ≤ i → i < first_for kind machine + n → Turns i
      range i p q =
          let t = turn_range kind machine (num_machines x.framework) i p q in
          (subst (λ (z : ℕ). i < z) num t.0, t.1)

      start : Mid S l l' (sends S x) (first_for kind machine) n (account kind x)
      start = record {
        frame = accounted-frame l machine x.framework s.frame kind small;
        room = s.room;
        waits = λ i p q. s.at i (range i p q).0;
        had = λ i p q.
            let m = subst (λ (z : ℕ). i < z) (sym num) p in
            let t = no_turn kind machine (num_machines x.framework) i m q in
            uncounted l machine i (runtime_at x.framework i) (s.at i p) kind t.0 t.1;
        acts = λ i t. (v.actor i t, inl t);
      }

      step : (n k : ℕ) (y : Run) → P (suc n) k y → OutcomeOk Told (P n (k + 1)) (f k y)
      step n k y (r, m) =
          let mine = r k (le_refl k) (omega arith) in
          let E = env_of tables D y.framework k in
          unfold machine_turn in
          ok_map Told (Mid S l l' (sends S x) (k + 1) n) (P n (k + 1)) (f k y)
          (store S l l' (sends S x) k n y m mine.0
          (turn E kind (limit_falls kind machine k) (blocked_now x.framework)
          (runtime_at y.framework k) y.shared (get_or y.actions k no_action))
          (turn_kept E (kept (l'.own k) (heard l' k) (Why S l' (sends S x) k))
          (closed E tells (l'.own k) (heard l' k) (Why S l' (sends S x) k)
          (by_check S l' (sends S x) y.framework m.frame k))
          kind (limit_falls kind machine k) (blocked_now x.framework) (runtime_at y.framework k)
          y.shared (get_or y.actions k no_action)
          (counted_has l machine (blocked_now x.framework) k (runtime_at y.framework k)
          (inv_owned (checks S) l (sends S x) v k mine.0) (m.waits k (le_refl k) (omega arith)) kind
          small mine.1)
          (λ t. (m.acts k t).1) tt))
          (λ z w. ((λ i p q. r i (omega arith) (omega arith)), w))

  -- ---- the signals
  signal-ok : (D : Source Place) (tells : Telling D) (l : Ledger) (i : ℕ) → i < machines_of S → packets l ≤ 2 ^ 53 → (x : Run)
      → Live S l x → OutcomeOk Told (Live S l) (signal_machine tables D i x)
  unfolding signal_machine
  signal-ok D tells l i h small x (v, s) =
      ok_map Told (Mid S l l (sends S x) (i + 1) 0) (Live S l) (signal_machine tables D i x)
      (store S l l (sends S x) i 0 x start h
      (transition E signal (runtime_at x.framework i) x.shared (get_or x.actions i no_action))
      (transition_kept E (kept (l.own i) (heard l i) (Why S l (sends S x) i))
      (closed E tells (l.own i) (heard l i) (Why S l (sends S x) i)
      (by_check S l (sends S x) x.framework s.frame i))
      signal (runtime_at x.framework i) x.shared (get_or x.actions i no_action) (s.at i h)
      (λ t. inl t) tt))
      (λ y m. mid_live S l l x y (i + 1) small v m)
    where
      E : Env
      E = env_of tables D x.framework i

      start : Mid S l l (sends S x) i 1 x
      start = record {
        frame = s.frame;
        room = s.room;
        waits = λ j p q. s.at j (omega (arith, h));
        had = λ j p q. s.at j p;
        acts = λ j t. (v.actor j t, inl t);
      }

  pub signals_ok : (D : Source Place) (tells : Telling D) (l : Ledger) → packets l ≤ 2 ^ 53 → (x : Run) → Live S l x
      → OutcomeOk Told (Live S l) (signals tables D x)
  signals_ok D tells l small =
      signals_kept Told (Live S l) tables D (machines_of S) (λ x v. num_is S l x.framework v.1.frame)
      (λ x v. (v.0, record { frame = v.1.frame; room = v.1.room; at = v.1.at }))
      (λ i h. signal-ok D tells l i h small)
