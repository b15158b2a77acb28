-- The laws of runs, whatever it is that they keep: of what a test chooses, of outcomes, of turns in order, of an event, of the signals
-- and of a whole batch of events. `R` holds of the numbers by which a run stops, `P` of a run that goes on. Assumes nothing.
use Prim.Native.Nat.{ℕ, zero, suc, ◌+◌, ◌-◌, ◌/◌, ◌≤◌, ◌<◌}
use Rattle.std.proofs.Common.{le_refl, true≢false, inl, inr, ap, subst, leb-true, ltb-true, ltb-false, eqb-true}
use native.Mathlib.Omega.{arith}
use Rattle.std.specs.Prelude.{Bool, true, false, cond, ◌&&◌, List, [], ◌∷◌, ◌⊎◌, ◌≡◌, refl, ltb, leb, eqb, Float, length, get_or, set}
use Rattle.std.proofs.lemmas.Bool.{false≢true, eqb-false}
use Rattle.machine.specs.Source.{Source}
use Rattle.machine.specs.Event.{normal_sent, padding_sent}
use Rattle.machine.specs.declared.source.Place.{Place}
use Rattle.rows.specs.First.{or_else}
use Rattle.steps.specs.Events.{Tables, Outcome, stop, go, and_then, each, num_machines, own_only, machine_turn, account, first_for, turns_for, blocked_now, process_event, kind_at, machine_at, event_turn, pending_of, unsignalled, signal_machine, signal_turn, last_signal, signals}
use Rattle.steps.specs.declared.Run.{Run}
use Rattle.steps.specs.Framework.{open_run, opened_by, open_refusal, opening, begin, trigger_events, batch_refusal, Batch, refused, accepted, concluded, batch}
use Rattle.steps.specs.declared.Framework.{Framework}
use Rattle.steps.specs.declared.Opened.{Opened}

-- ---- what holds of both holds of the one that a test chooses
pub either : {A : Type 0} (P : A → Type 0) (b : Bool) (x y : A) → P x → P y → P (cond b x y)
either P true x y h k = h
either P false x y h k = k

-- each where the test chooses it
pub by_test : {A : Type 0} (P : A → Type 0) (b : Bool) (x y : A) → (b ≡ true → P x) → (b ≡ false → P y) → P (cond b x y)
by_test P true x y h k = h refl
by_test P false x y h k = k refl

-- ---- what is stored at a place is there, or the list has no such place and is as it was
pub stored_at : {A : Type 0} (P : A → Type 0) (l : List A) (i : ℕ) (a d : A) → P a → P (get_or l i d) → P (get_or (set l i a) i d)
stored_at P [] i a d h k = k
stored_at P (x ∷ l) zero a d h k = h
stored_at P (x ∷ l) (suc i) a d h k = stored_at P l i a d h k

pub stored_all : {A : Type 0} (P : A → Type 0) (l : List A) (i : ℕ) (a d : A) → P a
    → ((j : ℕ) → P (get_or l j d)) → (j : ℕ) → P (get_or (set l i a) j d)
stored_all P [] i a d h k j = k j
stored_all P (x ∷ l) zero a d h k zero = h
stored_all P (x ∷ l) zero a d h k (suc j) = k (suc j)
stored_all P (x ∷ l) (suc i) a d h k zero = k zero
stored_all P (x ∷ l) (suc i) a d h k (suc j) = stored_all P l i a d h (λ m. k (suc m)) j

-- ---- outcomes
abbrev pub OutcomeOk : (ℕ → Type 0) → (Run → Type 0) → Outcome → Type 0
OutcomeOk R P (stop n) = R n
OutcomeOk R P (go x) = P x

module _ (R : ℕ → Type 0) where
  pub ok_then : (P Q : Run → Type 0) (o : Outcome) (f : Run → Outcome) → OutcomeOk R P o
      → ((x : Run) → P x → OutcomeOk R Q (f x)) → OutcomeOk R Q (and_then o f)
  ok_then P Q (stop n) f h k = h
  ok_then P Q (go x) f h k = k x h

  pub ok_map : (P Q : Run → Type 0) (o : Outcome) → OutcomeOk R P o → ((x : Run) → P x → Q x) → OutcomeOk R Q o
  ok_map P Q (stop n) h k = h
  ok_map P Q (go x) h k = k x h

  -- ---- turns in order: P n i x holds of the run x where n turns from turn i on are left
  pub each_ok : (P : ℕ → ℕ → Run → Type 0) (f : ℕ → Run → Outcome)
      → ((n i : ℕ) (x : Run) → P (suc n) i x → OutcomeOk R (P n (i + 1)) (f i x))
      → (n i : ℕ) (x : Run) → P n i x → OutcomeOk R (λ y. (j : ℕ) × P zero j y) (each f n i x)
  unfolding each
  each_ok P f h zero i x p = (i, p)
  each_ok P f h (suc n) i x p =
      ok_then (P n (i + 1)) (λ y. (j : ℕ) × P zero j y) (f i x) (each f n (i + 1)) (h n i x p)
      (each_ok P f h n (i + 1))

  -- what each of n turns from turn i on keeps
  pub turns_ok : (P : Run → Type 0) (f : ℕ → Run → Outcome) (n i : ℕ)
      → ((k : ℕ) → i ≤ k → k < i + n → (x : Run) → P x → OutcomeOk R P (f k x))
      → (x : Run) → P x → OutcomeOk R P (each f n i x)
  unfolding each
  turns_ok P f zero i h x p = p
  turns_ok P f (suc n) i h x p =
      ok_then P P (f i x) (each f n (i + 1)) (h i (le_refl i) (omega arith) x p)
      (turns_ok P f n (i + 1) (λ k a b. h k (omega arith) (omega arith)))

-- ---- which machines take a turn at an event
pub turn_range : (kind machine num i : ℕ) → first_for kind machine ≤ i
    → i < first_for kind machine + turns_for kind machine num
    → (i < num) × (kind ≡ padding_sent → i ≡ machine)
turn_range kind machine num i p q =
    by (own_only kind) (ltb machine num) (λ e. ap own_only e) (ltb-true machine num) p q
  where
    by : (b c : Bool) → (kind ≡ padding_sent → b ≡ true) → (c ≡ true → machine < num)
        → cond b machine 0 ≤ i → i < cond b machine 0 + cond b (cond c 1 0) num
        → (i < num) × (kind ≡ padding_sent → i ≡ machine)
    by true true h k p q = let m = k refl in (omega arith, λ e. omega arith)
    by true false h k p q = absurd (none p q)
      where
        none : machine ≤ i → i < machine + 0 → ⊥
        none p q = omega arith
    by false c h k p q = (omega arith, λ e. absurd (false≢true (h e)))

pub no_turn : (kind machine num i : ℕ) → i < num
    → (i < first_for kind machine) ⊎ (first_for kind machine + turns_for kind machine num ≤ i)
    → (kind ≡ normal_sent → ⊥) × (kind ≡ padding_sent → i ≡ machine → ⊥)
no_turn kind machine num i h o =
    by (own_only kind) (ltb machine num) (λ e. ap own_only e) (ltb-false machine num) o
  where
    by : (b c : Bool) → (kind ≡ normal_sent → b ≡ false) → (c ≡ false → num ≤ machine)
        → (i < cond b machine 0) ⊎ (cond b machine 0 + cond b (cond c 1 0) num ≤ i)
        → (kind ≡ normal_sent → ⊥) × (kind ≡ padding_sent → i ≡ machine → ⊥)
    by true true k m (inl q) = ((λ e. true≢false (k e)), λ e f. omega arith)
    by true true k m (inr q) = ((λ e. true≢false (k e)), λ e f. omega arith)
    by true false k m q = let z = m refl in ((λ e. true≢false (k e)), λ e f. omega arith)
    by false c k m (inl q) = absurd (below q)
      where
        below : i < 0 → ⊥
        below q = omega arith
    by false c k m (inr q) = absurd (beyond q)
      where
        beyond : 0 + num ≤ i → ⊥
        beyond q = omega (arith, h)

-- ---- what every machine's turn keeps, among M machines, an event, the signals and a batch keep
module _ (R : ℕ → Type 0) (P : Run → Type 0) (T : Tables) (D : Source Place) (M : ℕ)
    (machines : (x : Run) → P x → num_machines x.framework ≡ M) where
  pub event_kept : ((kind : ℕ) (x : Run) → P x → P (account kind x))
      → ((kind machine blocked i : ℕ) → i < M → (x : Run) → P x → OutcomeOk R P (machine_turn T D kind machine blocked i x))
      → (kind machine : ℕ) (x : Run) → P x → OutcomeOk R P (process_event T D kind machine x)
  unfolding process_event
  event_kept counts turn kind machine x p =
      turns_ok R P (machine_turn T D kind machine (blocked_now x.framework))
      (turns_for kind machine (num_machines x.framework)) (first_for kind machine)
      (λ i a b. turn kind machine (blocked_now x.framework) i
      (subst (λ (n : ℕ). i < n) (machines x p) (turn_range kind machine (num_machines x.framework) i a b).0))
      (account kind x) (counts kind x p)

  module _ (taken : (x : Run) → P x → P (unsignalled x))
      (turn : (i : ℕ) → i < M → (x : Run) → P x → OutcomeOk R P (signal_machine T D i x)) where
    last-kept : (pending : ℕ) (x : Run) → P x → OutcomeOk R P (last_signal T D pending x)
    last-kept pending x p =
        either (OutcomeOk R P) (eqb (pending_of x) 0) (go x) _ p
        (out (leb 2 pending) (ltb pending (2 + num_machines x.framework)) (leb-true 2 pending)
        (ltb-true pending (2 + num_machines x.framework)))
      where
        out : (b c : Bool) → (b ≡ true → 2 ≤ pending) → (c ≡ true → pending < 2 + num_machines x.framework)
            → OutcomeOk R P (cond (b && c) (signal_machine T D (pending - 2) (unsignalled x)) (go (unsignalled x)))
        out true true h k =
            let a = h refl in
            let b = k refl in
            let e = machines x p in
            turn (pending - 2) (omega arith) (unsignalled x) (taken x p)
        out true false h k = taken x p
        out false c h k = taken x p

    pub signals_kept : (x : Run) → P x → OutcomeOk R P (signals T D x)
    unfolding signals
    signals_kept x p =
        either (OutcomeOk R P) (eqb (pending_of x) 0) _ _ p
        (ok_then R P P (each (signal_turn T D (pending_of x)) (num_machines x.framework) 0 (unsignalled x))
        (last_signal T D (pending_of x))
        (turns_ok R P (signal_turn T D (pending_of x)) (num_machines x.framework) 0
        (λ i a b y q. either (OutcomeOk R P) (eqb (pending_of x) (2 + i)) (go y) (signal_machine T D i y) q (turn i (known i b) y q))
        (unsignalled x) (taken x p)) (last-kept (pending_of x)))
      where
        known : (i : ℕ) → i < 0 + num_machines x.framework → i < M
        known i b = let e = machines x p in omega arith

    pub run_kept : ((kind machine : ℕ) (x : Run) → P x → OutcomeOk R P (process_event T D kind machine x))
        → (time : ℕ) (es : List ℕ) (fw : Framework) → P (begin fw time) → OutcomeOk R P (trigger_events T D time es fw)
    unfolding trigger_events
    run_kept event time es fw p =
        ok_then R P P (each (event_turn T D es) (length es / 2) 0 (begin fw time)) (signals T D)
        (turns_ok R P (event_turn T D es) (length es / 2) 0 (λ i a b x q. event (kind_at es i) (machine_at es i) x q)
        (begin fw time) p) signals_kept

-- ---- no refusal among several
pub none_of : (a b : ℕ) → or_else a b ≡ 0 → (a ≡ 0) × (b ≡ 0)
unfolding or_else
none_of a b h = by (eqb a 0) (eqb-true a 0) (eqb-false a 0) h
  where
    by : (c : Bool) → (c ≡ true → a ≡ 0) → (c ≡ false → a ≡ 0 → ⊥) → cond c b a ≡ 0 → (a ≡ 0) × (b ≡ 0)
    by true e n h = (e refl, h)
    by false e n h = absurd (n refl h)

-- ---- an opening and a batch: refused by a check, stopped in the run, or accepted
module _ (R : ℕ → Type 0) (Q : Run → Type 0) where
  pub opening_ok : (P : Opened → Type 0) (T : Tables) (padding blocking : Float) (time : ℕ) (D : Source Place)
      → (open_refusal T padding blocking ≡ 0 → OutcomeOk R Q (open_run T padding blocking time D))
      → ((open_refusal T padding blocking ≡ 0 → ⊥) → P (opened_by (stop (open_refusal T padding blocking))))
      → (open_refusal T padding blocking ≡ 0 → (n : ℕ) → R n → P (opened_by (stop n)))
      → (open_refusal T padding blocking ≡ 0 → (x : Run) → Q x → P (opened_by (go x)))
      → P (opening T padding blocking time D)
  unfolding opening
  opening_ok P T padding blocking time D run checked stopped goes =
      by_test P (eqb n 0) _ _ (λ e. by (open_run T padding blocking time D) (run (eqb-true n 0 e)) (eqb-true n 0 e))
      (λ e. checked (eqb-false n 0 e))
    where
      n : ℕ
      n = open_refusal T padding blocking

      by : (o : Outcome) → OutcomeOk R Q o → open_refusal T padding blocking ≡ 0 → P (opened_by o)
      by (stop k) h e = stopped e k h
      by (go x) h e = goes e x h

  pub batch_ok : (P : Batch → Type 0) (fw : Framework) (T : Tables) (time : ℕ) (es : List ℕ) (D : Source Place) (out : List ℕ)
      → (batch_refusal fw T es out ≡ 0 → OutcomeOk R Q (trigger_events T D time es fw))
      → ((batch_refusal fw T es out ≡ 0 → ⊥) → P (refused fw out (batch_refusal fw T es out)))
      → (batch_refusal fw T es out ≡ 0 → (n : ℕ) → R n → P (refused fw out n))
      → (batch_refusal fw T es out ≡ 0 → (x : Run) → Q x → P (accepted x out))
      → P (batch fw T time es D out)
  unfolding batch
  batch_ok P fw T time es D out run checked stopped goes =
      by_test P (eqb n 0) _ _ (λ e. by (trigger_events T D time es fw) (run (eqb-true n 0 e)) (eqb-true n 0 e))
      (λ e. checked (eqb-false n 0 e))
    where
      n : ℕ
      n = batch_refusal fw T es out

      by : (o : Outcome) → OutcomeOk R Q o → batch_refusal fw T es out ≡ 0 → P (concluded fw out o)
      by (stop k) h e = stopped e k h
      by (go x) h e = goes e x h

-- of any outcome
pub ok_any : (o : Outcome) → OutcomeOk (λ n. Unit) (λ x. Unit) o
ok_any (stop n) = tt
ok_any (go x) = tt
