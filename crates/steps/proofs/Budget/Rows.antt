-- The returned SendPaddings: a machine with one among the rows is one of the machines, and its pending
-- action is SendPadding. Assumes nothing.
use Rattle.std.specs.Prelude.{ℕ, zero, suc, ◌+◌, ◌*◌, ◌<◌, ◌&&◌, Option, List, ◌≡◌, T, eqb, get_or}
use Rattle.std.proofs.Common.{add-zero, arith, inl, inr, sym, ap, ◌∙◌, subst, eqb→eq, lit<}
use Rattle.std.specs.Float.Ieee.Fits.{and_l, and_r}
use Rattle.machine.specs.Constants.{send_padding}
use Rattle.steps.specs.Transition.{no_action}
use Rattle.steps.specs.Framework.{action_rows, written}
use Rattle.steps.proofs.Rows.{RowOf, row_count, rows_are}
use Rattle.steps.specs.Budget.{returns_padding}
use Rattle.steps.proofs.Budget.Invariant.{or_of}
use Rattle.steps.proofs.Budget.Machine.{is_padding}
use Rattle.steps.specs.declared.TriggerAction.{TriggerAction}

module _ (actions : List (Option TriggerAction)) (n : ℕ) (out : List ℕ) (i : ℕ) where
  -- of one row
  one : (j : ℕ) → RowOf actions n out j → T (eqb (get_or out (j * 6) 0) i && eqb (get_or out (j * 6 + 1) 0) send_padding)
      → (i < n) × T (is_padding (get_or actions i no_action))
  one j r t =
      let a = eqb (get_or out (j * 6) 0) i in
      let b = eqb (get_or out (j * 6 + 1) 0) send_padding in
      let m : r.machine ≡ i =
      sym (r.word 0 (lit< tt)) ∙ ap (λ (k : ℕ). get_or out k 0) (add-zero (j * 6)) ∙ eqb→eq (get_or out (j * 6) 0) i (and_l a b t) in (
        subst (λ (k : ℕ). k < n) m r.known,
        subst (λ (k : ℕ). T (is_padding (get_or actions k no_action))) m
            (subst (λ (p : Option TriggerAction). T (is_padding p)) (sym r.pending)
            (subst (λ (k : ℕ). T (eqb k send_padding)) (r.word 1 (lit< tt)) (and_r a b t))),
      )

  -- of the first k
  some : (k : ℕ) → ((j : ℕ) → j < k → RowOf actions n out j) → T (returns_padding out k i)
      → (i < n) × T (is_padding (get_or actions i no_action))
  some zero h t = absurd t
  some (suc k) h t = elim (or_of (returns_padding out k i) _ t) [
    | inl u ↦ some k (λ j l. h j (omega arith)) u
    | inr u ↦ one k (h k (omega arith)) u
  ]

pub returned_acts : (actions : List (Option TriggerAction)) (n : ℕ) (out : List ℕ) (i : ℕ)
    → T (returns_padding (written (action_rows actions n) out) (row_count actions n) i)
    → (i < n) × T (is_padding (get_or actions i no_action))
returned_acts actions n out i =
    some actions n (written (action_rows actions n) out) i (row_count actions n) (rows_are actions n out)
