-- A run of a call over all machines. `Live l x`: the ledger l with the pending actions of the run x
-- keeps the invariant, and x's counts are the ledger's. In an event's turns the machines that still
-- wait have the ledger's counts from before it and the others those from after it: `Mid`. A machine's
-- own turn changes its own counts and action alone. Assumes nothing.
use Rattle.std.specs.Prelude.{Option}
use Rattle.std.specs.Prelude.{Ok}
use Rattle.std.specs.Prelude.{Result, Err}
use Rattle.steps.specs.declared.Step.{Step}
use Rattle.std.specs.Prelude.{ℕ, suc, ◌+◌, ◌^◌, ◌≤◌, ◌<◌, Bool, true, ◌⊎◌, ◌≡◌, T, length, get_or, set}
use Rattle.std.proofs.Math.Decide.{ℕ_discrete, dec_lt}
use Rattle.std.proofs.Common.{arith, inl, inr, sym, ◌∙◌, subst, length-set, get_or-set_same, get_or-set_other}
use Rattle.machine.specs.Constants.{machine_max}
use Rattle.steps.specs.Limits.{below_limit_padding}
use Rattle.steps.specs.Transition.{no_action}
use Rattle.steps.specs.Events.{num_machines, no_runtime, runtime_at, with_runtime, context_of, stored}
use Rattle.steps.specs.declared.Run.{Run}
use Rattle.steps.specs.Runs.{OutcomeOk}
use Rattle.steps.specs.Walk.{Stays}
use Rattle.steps.specs.Budget.{Ledger, packets, allowance, fraction}
use Rattle.steps.proofs.Budget.Invariant.{heard, Acts, Inv, inv_acts}
use Rattle.steps.proofs.Budget.Check.{Passed, numbers_at, Setup, machines_of, checks}
use Rattle.steps.proofs.Budget.Machine.{is_padding, Has, Told, kept}
use Rattle.steps.specs.declared.MachineRuntime.{MachineRuntime}
use Rattle.steps.specs.declared.Framework.{Framework}
use Rattle.steps.specs.declared.TriggerAction.{TriggerAction}

module _ (S : Setup) where
  open S use {tables, F, few}

  abbrev M : ℕ
  M = machines_of S

  -- ---- a run whose counts are the ledger's
  pub record Frame (l : Ledger) (fw : Framework) : Type 0 where
    pub machines : fw.machines ≡ M
    pub frac : fw.fixed.max_padding_frac ≡ F
    pub normal : fw.totals.normal_sent_packets ≡ l.normal
    pub padding : fw.totals.padding_sent_packets ≡ l.padding
    pub room : length fw.runtime ≡ machine_max

  -- machine i's counts
  abbrev pub At : Ledger → Framework → ℕ → Type 0
  At l fw i = Has (l.own i) (heard l i) (runtime_at fw i)

  -- the machines whose pending action is SendPadding
  abbrev pub sends : Run → ℕ → Bool
  sends x i = is_padding (get_or x.actions i no_action)

  pub record Same (l : Ledger) (x : Run) : Type 0 where
    pub frame : Frame l x.framework
    pub room : length x.actions ≡ machine_max
    pub at : (i : ℕ) → i < M → At l x.framework i

  abbrev pub MayAct : Ledger → (ℕ → Bool) → (ℕ → Bool) → Type 0
  MayAct = Acts (checks S)

  -- n turns from turn k on are left of an event that leads from the ledger l to l'
  pub record Mid (l l' : Ledger) (a : ℕ → Bool) (k n : ℕ) (x : Run) : Type 0 where
    pub frame : Frame l' x.framework
    pub room : length x.actions ≡ machine_max
    pub waits : (i : ℕ) → k ≤ i → i < k + n → At l x.framework i
    pub had : (i : ℕ) → i < M → (i < k) ⊎ (k + n ≤ i) → At l' x.framework i
    pub acts : MayAct l' a (sends x)

  -- why a SendPadding is pending
  abbrev pub Why : Ledger → (ℕ → Bool) → ℕ → Type 0
  Why l a i = T (a i) ⊎ Passed (numbers_at S i (l.own i) (heard l i) l.padding l.normal)

  pub by_check : (l : Ledger) (a : ℕ → Bool) (fw : Framework) → Frame l fw
      → (i : ℕ) (r : MachineRuntime)
      → Has (l.own i) (heard l i) r
      → below_limit_padding (context_of tables.machines i fw.current_time fw.fixed fw.totals) r ≡ true → Why l a i
  by_check l a fw f i r h b = inr (record {
    context = context_of tables.machines i fw.current_time fw.fixed fw.totals;
    runtime = r;
    reads = λ z. record {
      allowed = allowance tables i;
      f = fraction tables i;
      F = f.frac z;
      own = h.0 z;
      heard = h.1 z;
      padding = f.padding z;
      normal = f.normal z;
    };
    passed = b;
  })

  -- ---- a machine's step goes back into the run
  pub store : (l l' : Ledger) (a : ℕ → Bool) (k n : ℕ) (x : Run) → Mid l l' a k (suc n) x → k < M
      → (s : Result Step ℕ)
      → Stays (kept (l'.own k) (heard l' k) (Why l' a k)) s → OutcomeOk Told (Mid l l' a (k + 1) n) (stored x k s)
  store l l' a k n x m h (Err j) o = o
  store l l' a k n x m h (Ok d) o = record {
    frame = record {
      machines = m.frame.machines;
      frac = m.frame.frac;
      normal = m.frame.normal;
      padding = m.frame.padding;
      room = length-set x.framework.runtime k d.runtime ∙ m.frame.room;
    };
    room = length-set x.actions k d.action ∙ m.room;
    waits = λ i p q. other l i (λ e. past i p e) (m.waits i (omega arith) (omega arith));
    had = λ i p q. elim (ℕ_discrete i k) [
      | yes e ↦ subst (λ (j : ℕ). At l' now j) (sym e) own
      | no e ↦ other l' i e (m.had i p (side i e q))
    ];
    acts = λ i t. elim (ℕ_discrete i k) [
      | yes e ↦
          subst (λ (j : ℕ). T (is_padding (get_or (set x.actions k d.action) j no_action)) → (j < M)
          × Why l' a j) (sym e) act t
      | no e ↦
          m.acts i (subst (λ (z : Option TriggerAction). T (is_padding z))
          (get_or-set_other x.actions k i d.action no_action e) t)
    ];
  }
    where
      now : Framework
      now = with_runtime x.framework (set x.framework.runtime k d.runtime)

      inside : (n : ℕ) → n ≡ machine_max → k < n
      inside n e = omega (arith, h, few)

      past : (i : ℕ) → k + 1 ≤ i → i ≡ k → ⊥
      past i p e = omega arith

      side : (i : ℕ) → (i ≡ k → ⊥) → (i < k + 1) ⊎ (k + 1 + n ≤ i) → (i < k) ⊎ (k + suc n ≤ i)
      side i e (inl q) = inl (omega arith)
      side i e (inr q) = inr (omega arith)

      other : (l : Ledger) (i : ℕ) → (i ≡ k → ⊥) → At l x.framework i → At l now i
      other l i e =
          subst (Has (l.own i) (heard l i))
          (sym (get_or-set_other x.framework.runtime k i d.runtime no_runtime e))

      own : At l' now k
      own =
          subst (Has (l'.own k) (heard l' k))
          (sym (get_or-set_same x.framework.runtime k d.runtime no_runtime
          (inside (length x.framework.runtime) m.frame.room))) o.0

      act : T (is_padding (get_or (set x.actions k d.action) k no_action)) → (k < M) × Why l' a k
      act t = (
        h,
        o.1 (subst (λ (z : Option TriggerAction). T (is_padding z))
            (get_or-set_same x.actions k d.action no_action (inside (length x.actions) m.room))
            t),
      )

  pub num_is : (l : Ledger) (fw : Framework) → Frame l fw → num_machines fw ≡ M
  num_is l fw f = let e = f.machines in omega (arith, few)

  -- the invariant of a batch: what its SendPaddings owe, and its counts
  abbrev pub Live : Ledger → Run → Type 0
  Live l x = Inv (checks S) l (sends x) × Same l x

  pub mid_live : (l l' : Ledger) (x y : Run) (k : ℕ) → packets l' ≤ 2 ^ 53 → Inv (checks S) l' (sends x)
      → Mid l l' (sends x) k 0 y → Live l' y
  mid_live l l' x y k small v m = (
    inv_acts (checks S) l' (sends x) (sends y) small v m.acts,
    record { frame = m.frame; room = m.room; at = λ i h. m.had i h (side i) },
  )
    where
      side : (i : ℕ) → (i < k) ⊎ (k + 0 ≤ i)
      side i = elim (dec_lt i k) [ yes h ↦ inl h | no h ↦ inr (omega arith) ]
