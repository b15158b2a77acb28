-- Rows written one behind the other: each goes into the part of the output that starts where the rows before it end.
use Prim.Native.Nat.{ℕ, ◌+◌, ◌-◌, ◌≤◌}
use mathlib.Core.Path.{◌≡◌, sym, ap, ◌∙◌}
use mathlib.Core.List.{List, ◌++◌, append_assoc, append-nil}
use Rattle.std.specs.Prelude.{Option, Some, None}
use native.Mathlib.Numerals.{add-one}
use native.Mathlib.Omega.{arith}
use lib.ListN.{length, take, drop, get_or, length-append, length-drop, length-take}
use lib.Seq.{take_at, drop_at, take-length, drop-length, drop-drop}
use Rattle.steps.specs.Transition.{no_action}
use Rattle.steps.specs.Framework.{action_row, action_rows, written}
use Rattle.steps.specs.declared.TriggerAction.{TriggerAction}

-- words w that are written through the part of `out` from `at` on, where `out` is R and then what came
pasted : (R o out w ys : List ℕ) (at : ℕ) → at ≡ length R → out ≡ written R o →
    ys ≡ written w (take (length out - at) (drop at out)) →
    take at out ++ (ys ++ drop (length out - at) (drop at out)) ≡ written (R ++ w) o
pasted R o out w ys at e h y =
    let D : List ℕ = drop (length R) o in
    let d : drop at out ≡ D = ap (drop at) h ∙ drop_at R D at (sym e) in
    let t : take at out ≡ R = ap (take at) h ∙ take_at R D at (sym e) in
    let l : length out - at ≡ length D = omega (arith, simp length-append at (ap length h)) in
    rw (y, t, d, l, take-length D, drop-length D) (simp (append-nil, append_assoc, length-append, drop-drop))

-- a row has six words or none
pub row_short : (m : ℕ) (p : Option TriggerAction) → length (action_row m p) ≤ 6
row_short m None = omega arith
row_short m (Some p) = omega arith

module _ (actions : List (Option TriggerAction)) (m : ℕ) where
  pub rows_more : action_rows actions (m + 1) ≡ action_rows actions m ++ action_row m (get_or actions m no_action)
  unfolding action_rows
  rows_more = rw add-one

  pub rows_longer :
      length (action_rows actions (m + 1)) ≡ length (action_rows actions m) + length (action_row m (get_or actions m no_action))
  rows_longer = ap length rows_more ∙ length-append (action_rows actions m) (action_row m (get_or actions m no_action))

  -- one machine's row behind those before it
  pub row_written : (o out ys : List ℕ) (at : ℕ) →
      at ≡ length (action_rows actions m) → out ≡ written (action_rows actions m) o →
      ys ≡ written (action_row m (get_or actions m no_action)) (take (length out - at) (drop at out)) →
      take at out ++ (ys ++ drop (length out - at) (drop at out)) ≡ written (action_rows actions (m + 1)) o
  row_written o out ys at e h y =
      pasted (action_rows actions m) o out (action_row m (get_or actions m no_action)) ys at e h y
      ∙ ap (λ (R : List ℕ). written R o) (sym rows_more)

-- a part that is written and is as long as it was leaves the length
pub same : (out ys : List ℕ) (at : ℕ) → at ≤ length out →
    length ys ≡ length (take (length out - at) (drop at out)) →
    length (take at out ++ (ys ++ drop (length out - at) (drop at out))) ≡ length out
same out ys at h e = simp (length-append, e, length-take, length-drop) (omega arith)
