-- The walk along a row, a transition at a time: it goes on past a sum that does not exceed the
-- draw, stops at one that does, and ends with none; a row beyond the table chooses nothing.
-- Assumes nothing.
use Prim.Native.Nat.{ℕ, zero, suc, ◌+◌, ◌-◌, ◌*◌, ◌≤◌, ◌<◌}
use mathlib.Core.Path.{◌≡◌}
use mathlib.Core.Bool.{true, false}
use mathlib.Core.List.{List}
use native.Mathlib.Omega.{arith}
use borrow.Author.Tests.{le-leb, lt-leb}
use lib.ListN.{length}
use lib.Ieee.{Float, binary32, of_bits, add, lt}
use Rattle.machine.specs.Constants.{transition_words}
use Rattle.machine.specs.State.{probability_at, target_at, walk, sample_state}
use Rattle.std.specs.Prelude.{Some, None}

module _ (ts : List ℕ) (i end : ℕ) (sum draw : Float) where
  pub walk_on : i < end → lt draw (add binary32 sum (probability_at ts i)) ≡ false →
      walk ts i (end - i) sum draw ≡
      walk ts (i + 1) (end - (i + 1)) (add binary32 sum (probability_at ts i)) draw
  unfolding walk
  walk_on h e = let one : end - i ≡ suc (end - (i + 1)) = omega arith in rw one (simp e)

  pub walk_stops : i < end → lt draw (add binary32 sum (probability_at ts i)) ≡ true →
      walk ts i (end - i) sum draw ≡ Some (target_at ts i)
  unfolding walk
  walk_stops h e = let one : end - i ≡ suc (end - (i + 1)) = omega arith in rw one (simp e)

  pub walk_ends : end ≤ i → walk ts i (end - i) sum draw ≡ None
  unfolding walk
  walk_ends h = let none : end - i ≡ zero = omega arith in rw none

module _ (ts : List ℕ) (first count : ℕ) (draw : Float) where
  pub row_within : (first + count) * transition_words ≤ length ts →
      sample_state ts first count draw ≡ walk ts first count (of_bits binary32 0) draw
  unfolding sample_state
  row_within h = rw (le-leb _ _ h)

  pub row_beyond : length ts < (first + count) * transition_words →
      sample_state ts first count draw ≡ None
  unfolding sample_state
  row_beyond h = rw (lt-leb _ _ h)
