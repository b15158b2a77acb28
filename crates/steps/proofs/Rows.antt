-- The returned rows, read from the output's words: each is the action of one of the machines, and there are no more rows than machines.
-- Assumes nothing.
use Rattle.std.specs.Prelude.{ℕ, zero, suc, ◌+◌, ◌*◌, ◌/◌, ◌≤◌, ◌<◌, Option, Some, None, List, [], ◌∷◌, ◌++◌, ◌≡◌, refl, length, get_or, drop}
use Rattle.std.proofs.Common.{add-zero, mul-div_cancel, arith, append_assoc, sym, ap, ◌∙◌, subst, lit<, length-append, get_or-append-add}
use Rattle.std.proofs.Math.Decide.{ℕ_discrete}
use Rattle.std.proofs.Math.ListN.{get_or-append}
use Rattle.steps.specs.Transition.{no_action}
use Rattle.steps.specs.Framework.{action_row, action_rows, written}
use Rattle.steps.specs.declared.TriggerAction.{TriggerAction}

-- a machine's row
abbrev pub row_words : ℕ → TriggerAction → List ℕ
row_words i p = i ∷ p.kind ∷ p.flags ∷ p.timer ∷ p.timeout ∷ p.duration ∷ []

-- Row j of the output is the action of one of the first n machines.
pub record RowOf (actions : List (Option TriggerAction)) (n : ℕ) (out : List ℕ) (j : ℕ) : Type 0 where
  pub machine : ℕ
  pub known : machine < n
  pub action : TriggerAction
  pub pending : get_or actions machine no_action ≡ Some action
  pub word : (k : ℕ) → k < 6 → get_or out (j * 6 + k) 0 ≡ get_or (row_words machine action) k 0

-- k rows of six words at the front, whatever follows
abbrev Read : List (Option TriggerAction) → ℕ → List ℕ → ℕ → Type 0
Read actions n rows k =
    (length rows ≡ k * 6) × (k ≤ n) × ((tail : List ℕ) (j : ℕ) → j < k → RowOf actions n (rows ++ tail) j)

-- one more machine, without an action and with one
module _ (actions : List (Option TriggerAction)) (n : ℕ) (rows : List ℕ) (k : ℕ) (h : Read actions n rows k) where
  later : (out : List ℕ) (j : ℕ) → RowOf actions n out j → RowOf actions (suc n) out j
  later out j r = record { machine = r.machine; known = next r.machine r.known; action = r.action; pending = r.pending; word = r.word }
    where
      next : (m : ℕ) → m < n → m < suc n
      next m h = omega arith

  no_row : Read actions (suc n) (rows ++ []) k
  no_row = (
    length-append rows [] ∙ add-zero (length rows) ∙ h.0,
    more h.1,
    λ tail j l. subst (λ (r : List ℕ). RowOf actions (suc n) r j) (sym (append_assoc rows [] tail))
        (later (rows ++ tail) j (h.2 tail j l)),
  )
    where
      more : k ≤ n → k ≤ suc n
      more h = omega arith

  a-row : (p : TriggerAction) → get_or actions n no_action ≡ Some p → Read actions (suc n) (rows ++ row_words n p) (suc k)
  a-row p is = (
    length-append rows row ∙ six (length rows) h.0,
    more h.1,
    λ tail j l. subst (λ (r : List ℕ). RowOf actions (suc n) r j) (sym (append_assoc rows row tail)) (read tail j l),
  )
    where
      row : List ℕ
      row = row_words n p

      more : k ≤ n → suc k ≤ suc n
      more h = omega arith

      six : (a : ℕ) → a ≡ k * 6 → a + 6 ≡ suc k * 6
      six a p = omega arith

      own : (tail : List ℕ) (c : ℕ) → c < 6 → get_or (rows ++ (row ++ tail)) (k * 6 + c) 0 ≡ get_or row c 0
      own tail c l =
          ap (λ (m : ℕ). get_or (rows ++ (row ++ tail)) (m + c) 0) (sym h.0)
          ∙ get_or-append-add rows (row ++ tail) c 0 ∙ get_or-append row tail 0 c l

      last : (n : ℕ) → n < suc n
      last n = omega arith

      read : (tail : List ℕ) (j : ℕ) → j < suc k → RowOf actions (suc n) (rows ++ (row ++ tail)) j
      read tail j l = elim (ℕ_discrete j k) [
        | yes e ↦
            subst (RowOf actions (suc n) (rows ++ (row ++ tail))) (sym e)
            (record { machine = n; known = last n; action = p; pending = is; word = own tail })
        | no e ↦ later (rows ++ (row ++ tail)) j (h.2 (row ++ tail) j (omega arith))
      ]

rows_read : (actions : List (Option TriggerAction)) (n : ℕ) → (k : ℕ) × Read actions n (action_rows actions n) k
unfolding action_rows
rows_read actions zero = (0, (refl, omega arith, λ tail j l. absurd (none j l)))
  where
    none : (j : ℕ) → j < 0 → ⊥
    none j l = omega arith
rows_read actions (suc n) = by (rows_read actions n) (get_or actions n no_action) refl
  where
    by : (k : ℕ) × Read actions n (action_rows actions n) k → (p : Option TriggerAction) → get_or actions n no_action ≡ p
        → (j : ℕ) × Read actions (suc n) (action_rows actions n ++ action_row n p) j
    by (k, h) None e = (k, no_row actions n (action_rows actions n) k h)
    by (k, h) (Some p) e = (suc k, a-row actions n (action_rows actions n) k h p e)

-- as a batch's answer counts the rows, and as its output holds them
module _ (actions : List (Option TriggerAction)) (n : ℕ) where
  abbrev pub row_count : ℕ
  row_count = length (action_rows actions n) / 6

  count-is : row_count ≡ (rows_read actions n).0
  count-is = ap (λ (m : ℕ). m / 6) (rows_read actions n).1.0 ∙ mul-div_cancel (rows_read actions n).0 (lit< tt)

  pub rows_most : row_count ≤ n
  rows_most = subst (λ (m : ℕ). m ≤ n) (sym count-is) (rows_read actions n).1.1

  pub rows_are : (out : List ℕ) (j : ℕ) → j < row_count → RowOf actions n (written (action_rows actions n) out) j
  rows_are out j l =
      (rows_read actions n).1.2 (drop (length (action_rows actions n)) out) j (subst (λ (m : ℕ). j < m) count-is l)
