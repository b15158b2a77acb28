-- An accepted batch keeps the invariant: the events in order, the signals, then the returned rows. A
-- refused one returns the framework as it went in. Assumes nothing.
use Rattle.std.specs.Prelude.{ℕ, zero, suc, ◌+◌, ◌*◌, ◌-◌, ◌/◌, ◌^◌, ◌≤◌, ◌<◌, Bool, List, [], ◌∷◌, ◌≡◌, refl, T, length, drop}
use Rattle.std.proofs.Common.{le_trans, lt_irrefl, arith, inl, sym, ap, ◌∙◌, subst, length-drop, drop-cons}
use Rattle.std.proofs.lemmas.List.{length-replicate}
use Rattle.machine.specs.Source.{Source, Telling}
use Rattle.machine.specs.declared.source.Place.{Place}
use Rattle.machine.specs.Constants.{machine_max}
use Rattle.steps.specs.Transition.{no_action}
use Rattle.steps.specs.Events.{Tables, each, num_machines, kind_at, machine_at, event_turn, signals}
use Rattle.steps.specs.declared.Run.{Run}
use Rattle.steps.specs.Framework.{begin, trigger_events, accepted, batch}
use Rattle.steps.specs.Runs.{OutcomeOk, ok_any, ok_then, ok_map, each_ok, batch_ok}
use Rattle.steps.specs.Machines.{none_pending}
use Rattle.steps.specs.Budget.{Ledger, count, counted, returned, returns_padding, packets, Spends}
use Rattle.steps.proofs.Budget.Invariant.{nobody, counted_grows, Inv, inv_acts, inv_end}
use Rattle.steps.proofs.Budget.Check.{Setup, machines_of, checks}
use Rattle.steps.proofs.Budget.Machine.{is_padding, Told}
use Rattle.steps.proofs.Budget.Runs.{Frame, At, sends, num_is, Live}
use Rattle.steps.proofs.Budget.Turns.{event_ok, signals_ok}
use Rattle.steps.proofs.Budget.Rows.{returned_acts}
use Rattle.steps.specs.declared.Framework.{Framework}

-- ---- the lent event words, two by two
event_words : (es : List ℕ) (i : ℕ) → i < length es / 2
    → drop (i * 2) es ≡ kind_at es i ∷ machine_at es i ∷ drop ((i + 1) * 2) es
event_words es i h =
    drop-cons es (i * 2) 0 (first i (length es) h)
    ∙ ap (λ (j : ℕ). kind_at es i ∷ drop j es) (next i)
    ∙ ap (λ (r : List ℕ). kind_at es i ∷ r)
    (drop-cons es (i * 2 + 1) 0 (second i (length es) h) ∙ ap (λ (j : ℕ). machine_at es i ∷ drop j es)
    (after i))
  where
    first : (i n : ℕ) → i < n / 2 → i * 2 < n
    first i n h = omega arith

    second : (i n : ℕ) → i < n / 2 → i * 2 + 1 < n
    second i n h = omega arith

    next : (i : ℕ) → suc (i * 2) ≡ i * 2 + 1
    next i = omega arith

    after : (i : ℕ) → suc (i * 2 + 1) ≡ (i + 1) * 2
    after i = omega arith

rest_none : (l : Ledger) (es : List ℕ) → length es ≤ 1 → counted l es ≡ l
rest_none l [] h = refl
rest_none l (w ∷ []) h = refl
rest_none l (w ∷ v ∷ es) h = absurd (long (length es) h)
  where
    long : (n : ℕ) → suc (suc n) ≤ 1 → ⊥
    long n h = omega arith

module _ (S : Setup) where
  open S use {tables}

  -- ---- the events of a batch
  events-ok : (D : Source Place) (tells : Telling D) (es : List ℕ) (l : Ledger) (x : Run) → Live S l x → Spends l es
      → packets (counted l es) ≤ 2 ^ 53
      → OutcomeOk Told (Live S (counted l es)) (each (event_turn tables D es) (length es / 2) 0 x)
  events-ok D tells es l x v s small =
      ok_map Told (λ y. (j : ℕ) × P zero j y) (Live S (counted l es))
      (each (event_turn tables D es) (length es / 2) 0 x)
      (each_ok Told P (event_turn tables D es) step (length es / 2) 0 x (l, v, s, refl, none (length es / 2)))
      (λ y q. end y q.0 q.1)
    where
      -- m counts the events so far
      P : ℕ → ℕ → Run → Type 0
      P n i y =
          (m : Ledger) × Live S m y × Spends m (drop (i * 2) es)
          × (counted m (drop (i * 2) es) ≡ counted l es)
          × (i + n ≡ length es / 2)

      none : (n : ℕ) → 0 + n ≡ n
      none n = omega arith

      step : (n i : ℕ) (y : Run) → P (suc n) i y → OutcomeOk Told (P n (i + 1)) (event_turn tables D es i y)
      step n i y (m, w, t, e, k) =
          let words = event_words es i (omega arith) in
          let t' = subst (Spends m) words t in
          let e' : counted (count m (kind_at es i) (machine_at es i)) (drop ((i + 1) * 2) es) ≡ counted l
          es = ap (counted m) (sym words) ∙ e in
          ok_map Told (Live S (count m (kind_at es i) (machine_at es i))) (P n (i + 1))
          (event_turn tables D es i y)
          (event_ok S D tells m (kind_at es i) (machine_at es i) y w t'.0
          (le_trans (counted_grows (count m (kind_at es i) (machine_at es i)) (drop ((i + 1) * 2) es))
          (subst (λ (z : Ledger). packets z ≤ 2 ^ 53) (sym e') small)))
          (λ z u. (count m (kind_at es i) (machine_at es i), u, t'.1, e', omega arith))

      short : (i n : ℕ) → i + 0 ≡ n / 2 → n - i * 2 ≤ 1
      short i n h = omega arith

      end : (y : Run) (i : ℕ) → P zero i y → Live S (counted l es) y
      end y i (m, w, t, e, k) =
          subst (λ (z : Ledger). Live S z y)
          (sym (rest_none m (drop (i * 2) es)
          (subst (λ (z : ℕ). z ≤ 1) (sym (length-drop (i * 2) es)) (short i (length es) k))) ∙ e) w

  -- ---- between batches
  pub record Rest (l : Ledger) (fw : Framework) : Type 0 where
    pub inv : Inv (checks S) l nobody
    pub frame : Frame S l fw
    pub at : (i : ℕ) → i < machines_of S → At S l fw i

  begins : (l : Ledger) (fw : Framework) (time : ℕ) → packets l ≤ 2 ^ 53 → Rest l fw
      → Live S l (begin fw time)
  begins l fw time small r = (
    inv_acts (checks S) l nobody (sends S (begin fw time)) small r.inv
        (λ i t. absurd (none_pending (λ a. T (is_padding a) → ⊥) (λ u. u) machine_max i t)),
    record {
      frame = record {
        machines = r.frame.machines;
        frac = r.frame.frac;
        normal = r.frame.normal;
        padding = r.frame.padding;
        room = r.frame.room;
      };
      room = length-replicate machine_max no_action;
      at = r.at;
    },
  )

  runs : (D : Source Place) (tells : Telling D) (time : ℕ) (es : List ℕ) (l : Ledger) (fw : Framework) → Rest l fw → Spends l es
      → packets (counted l es) ≤ 2 ^ 53
      → OutcomeOk Told (Live S (counted l es)) (trigger_events tables D time es fw)
  unfolding trigger_events
  runs D tells time es l fw r s small =
      ok_then Told (Live S (counted l es)) (Live S (counted l es))
      (each (event_turn tables D es) (length es / 2) 0 (begin fw time)) (signals tables D)
      (events-ok D tells es l (begin fw time) (begins l fw time (le_trans (counted_grows l es) small) r) s
      small)
      (signals_ok S D tells (counted l es) small)

  -- ---- the batch's end
  ends : (l : Ledger) (x : Run) (out : List ℕ) → packets l ≤ 2 ^ 53 → Live S l x
      → Rest (returned l (returns_padding (accepted x out).out (accepted x out).answer.actions))
      (accepted x out).answer.framework
  ends l x out small (v, s) = record {
    inv =
        inv_end (checks S) l rows (inv_acts (checks S) l (sends S x) rows small v
        (λ i t. (bound i (read i t).0, inl (read i t).1)));
    frame = record {
      machines = s.frame.machines;
      frac = s.frame.frac;
      normal = s.frame.normal;
      padding = s.frame.padding;
      room = s.frame.room;
    };
    at = s.at;
  }
    where
      rows : ℕ → Bool
      rows = returns_padding (accepted x out).out (accepted x out).answer.actions

      read : (i : ℕ) → T (rows i) → (i < num_machines x.framework) × T (sends S x i)
      read i t = returned_acts x.actions (num_machines x.framework) out i t

      bound : (i : ℕ) → i < num_machines x.framework → i < machines_of S
      bound i h = subst (λ (n : ℕ). i < n) (num_is S l x.framework s.frame) h

  -- ---- a batch with refusal 0 ran to its end
  pub accepted_law : (D : Source Place) (tells : Telling D) (time : ℕ) (es out : List ℕ) (l : Ledger) (fw : Framework) → Rest l fw
      → Spends l es
      → packets (counted l es) ≤ 2 ^ 53 → (batch fw tables time es D out).answer.refusal ≡ 0
      → Rest (returned (counted l es)
      (returns_padding (batch fw tables time es D out).out
      (batch fw tables time es D out).answer.actions))
      (batch fw tables time es D out).answer.framework
  accepted_law D tells time es out l fw r s small =
      batch_ok Told (Live S (counted l es))
      (λ b. b.answer.refusal ≡ 0
      → Rest (returned (counted l es) (returns_padding b.out b.answer.actions)) b.answer.framework)
      fw tables time es D out (λ e. runs D tells time es l fw r s small) (λ e z. absurd (e z))
      (λ e n w z. absurd (lt_irrefl 0 (subst (λ (j : ℕ). 0 < j) z w)))
      (λ e x w z. ends (counted l es) x out small w)

-- ---- a refused batch returns the framework as it went in
pub refused_law : (fw : Framework) (tables : Tables) (time : ℕ) (es : List ℕ) (D : Source Place) (out : List ℕ)
    → ((batch fw tables time es D out).answer.refusal ≡ 0 → ⊥)
    → (batch fw tables time es D out).answer.framework ≡ fw
refused_law fw tables time es D out =
    batch_ok (λ n. Unit) (λ x. Unit) (λ b. (b.answer.refusal ≡ 0 → ⊥) → b.answer.framework ≡ fw)
    fw tables time es D out (λ e. ok_any (trigger_events tables D time es fw)) (λ e h. refl) (λ e n r h. refl)
    (λ e x q h. absurd (h refl))
