-- `first_of` meets its contract: a count that is not 0 stands in the row, and so does the word before it. Assumes nothing.
use native.Mathlib.Omega.{arith}
use native.Mathlib.Decide.{dec_lt}
use Prim.Native.Nat.{ℕ, ◌+◌, ◌*◌, ◌<◌}
use mathlib.Core.List.{List}
use mathlib.Core.Path.{◌≡◌}
use lib.ListN.{length, get_or, get_or-eq_default}
use Rattle.machine.specs.Constants.{events}
use Rattle.machine.proofs.state.first_of.Goals as goal

inside : (row : List ℕ) (k : ℕ) → (get_or row (k + 1) 0 ≡ 0 → ⊥) → k < length row
inside row k some = elim (dec_lt k (length row)) [
  | yes h ↦ h
  | no h ↦ absurd (some (get_or-eq_default row 0 (omega (arith, h))))
]

pub bounds-row-event : goal.bounds-row-event
bounds-row-event c =
    let a = c.args in
    inside a.row.now (events + a.event * 2) c.requires.has_rows
