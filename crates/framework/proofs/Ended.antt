-- One machine more: for the loops that look at the machines' states and count those that have ended.
use Prim.Native.Nat.{ℕ, ◌+◌, ◌≤◌}
use mathlib.Core.Path.{◌≡◌}
use mathlib.Core.List.{List}
use mathlib.Core.Bool.{cond}
use native.Mathlib.Numerals.{add-one}
use native.Mathlib.Nat.{le_trans, le_of_eq}
use lib.ListN.{get_or}
use Rattle.steps.specs.Events.{no_runtime}
use Rattle.steps.specs.Framework.{has_ended, ended_in}
use Rattle.steps.proofs.Ended.{ended_most}
use Rattle.steps.specs.declared.MachineRuntime.{MachineRuntime}

module _ (rs : List MachineRuntime) (m ended one : ℕ) (e : ended ≡ ended_in rs m) (f : one ≡ cond (has_ended (get_or rs m no_runtime)) 1 0) where
  pub one_more : ended + one ≡ ended_in rs (m + 1)
  unfolding ended_in
  one_more = rw add-one (λ z. e z + f z)

  pub at_most : ended + one ≤ m + 1
  at_most = le_trans (le_of_eq one_more) (ended_most rs (m + 1))
