-- A number that is rounded to the nearest whole one is at most the largest u64. Assumes nothing.
use Prim.Native.Nat.{ℕ, ◌≤◌, zero-le, min}
use mathlib.Core.Path.{◌≡◌, refl, ap}
use mathlib.Core.Bool.{true, false}
use native.Mathlib.Omega.{arith}
use native.Mathlib.Nat.{le_refl, min-le_right}
use lib.Ieee.{Float, nan, inf, fin}
use Rattle.numbers.specs.Round.{round_away}
use Rattle.machine.specs.Constants.{state_limit_max}
use Rattle.dists.specs.Dist.{got_whole, whole_of}
use Rattle.std.specs.Prelude.{Result, Ok, Err}
use Rattle.machine.specs.declared.source.Draw.{Draw}

at_most : (x : Float) → round_away x ≤ state_limit_max
unfolding round_away
at_most nan = zero-le
at_most (inf true) = zero-le
at_most (inf false) = le_refl _
at_most (fin true m e) = zero-le
at_most (fin false m e) = min-le_right _ _

uncapped : (x : Float) → min (round_away x) state_limit_max ≡ round_away x
uncapped x = omega (arith, at_most x)

-- with that cap the rounded number is the number
pub rounded_fits : (d : Result (Draw Float) ℕ) →
    whole_of (λ (x : Float). min (round_away x) state_limit_max) d ≡ whole_of round_away d
rounded_fits (Err r) = refl
rounded_fits (Ok v) = ap (λ (w : ℕ). got_whole w v.at) (uncapped v.value)
