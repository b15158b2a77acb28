-- What an event counts at a machine that takes its turn at it, and at one that takes none. Assumes
-- nothing.
use Rattle.std.specs.Prelude.{ℕ, suc, ◌+◌, ◌^◌, ◌≤◌, ◌≡◌, refl, eqb}
use Rattle.std.proofs.Common.{arith, sym, ap, ◌∙◌, ne_eqb}
use Rattle.numbers.specs.Saturating.{saturating_add}
use Rattle.machine.specs.Event.{normal_sent, padding_sent, blocking_end}
use Rattle.steps.specs.Events.{with_counts, counts_after, counted_by}
use Rattle.steps.specs.Budget.{Ledger, plus, count, packets}
use Rattle.steps.specs.Budget.Sums.{plus_same, plus_other}
use Rattle.steps.proofs.Budget.Invariant.{heard, kind_cases, count_other}
use Rattle.steps.specs.Runs.{either}
use Rattle.steps.proofs.Budget.Machine.{Has}
use Rattle.steps.specs.declared.MachineRuntime.{MachineRuntime}

-- ---- an event's counts, which no number of packets up to 2 ^ 53 saturates
pub one_more : (a b : ℕ) → a ≤ b → suc b ≤ 2 ^ 53 → saturating_add a 1 ≡ suc a
one_more a b h k = omega arith

-- of a machine that takes its turn at it
pub counted_has : (l : Ledger) (machine blocked i : ℕ) (r : MachineRuntime) → l.own i ≤ l.padding
    → Has (l.own i) (heard l i) r
    → (kind : ℕ) → packets (count l kind machine) ≤ 2 ^ 53 → (kind ≡ padding_sent → i ≡ machine)
    → Has ((count l kind machine).own i) (heard (count l kind machine) i) (counted_by kind blocked r)
unfolding counts_after
counted_has l machine blocked i r owned h =
    kind_cases (λ kind. packets (count l kind machine) ≤ 2 ^ 53 → (kind ≡ padding_sent → i ≡ machine)
    → Has ((count l kind machine).own i) (heard (count l kind machine) i) (counted_by kind blocked r))
    (λ k mine. (
      h.0,
      ap up h.1 ∙ one_more l.normal (l.padding + l.normal) (omega arith)
          (omega arith),
    ))
    (λ k mine. (
      ap up h.0 ∙ one_more (l.own i) l.padding owned (omega arith) ∙ sym (plus_same l.own i)
          ∙ ap (λ (z : ℕ). plus l.own z i) (mine refl),
      h.1,
    ))
    (λ kind a b k mine. rw (ne_eqb kind normal_sent a, ne_eqb kind padding_sent b)
    (either (λ c. Has (l.own i) (heard l i) (with_counts r c)) (eqb kind blocking_end) _ _ h h))
  where
    up : ℕ → ℕ
    up z = saturating_add z 1

-- of a machine that takes none
pub uncounted : (l : Ledger) (machine i : ℕ) (r : MachineRuntime) → Has (l.own i) (heard l i) r
    → (kind : ℕ) → (kind ≡ normal_sent → ⊥) → (kind ≡ padding_sent → i ≡ machine → ⊥)
    → Has ((count l kind machine).own i) (heard (count l kind machine) i) r
uncounted l machine i r h =
    kind_cases (λ kind. (kind ≡ normal_sent → ⊥) → (kind ≡ padding_sent → i ≡ machine → ⊥)
    → Has ((count l kind machine).own i) (heard (count l kind machine) i) r)
    (λ a b. absurd (a refl))
    (λ a b. (h.0 ∙ sym (plus_other l.own machine i (λ e. b refl (sym e))), h.1))
    (λ kind a b c d. count_other (λ m. Has (m.own i) (heard m i) r) l machine kind a b h)
