-- A row without counters changes nothing. Assumes nothing.
use Rattle.std.specs.Prelude.{Ok}
use mathlib.Core.List.{List}
use mathlib.Core.Bool.{Bool, true, false, ◌&&◌, ◌||◌}
use mathlib.Core.Path.{◌≡◌, refl}
use Prim.Native.Nat.{ℕ}
use lib.ListN.{get_or}
use lib.Dec.{eqb}
use Rattle.machine.specs.Constants.{counter_a, counter_b}
use Rattle.machine.specs.Source.{Values}
use Rattle.machine.specs.declared.source.Place.{Place}
use Rattle.steps.specs.Transition.{update_one, tally_a, tally_b, untallied, update_counters}
use Rattle.steps.specs.declared.Counters.{Counters}
use Rattle.steps.specs.declared.Zeroed.{Zeroed}

and_left : (a b : Bool) → (a && b) ≡ true → a ≡ true
and_left true b e = refl
and_left false b e = e

and_right : (a b : Bool) → (a && b) ≡ true → b ≡ true
and_right true b e = e
and_right false b e = let z : ◌≡◌ {A = Bool} false true = e in cc

or_false : (a : Bool) → (a || false) ≡ a
or_false true = refl
or_false false = refl

pub uncounted : (row : List ℕ) (values : Values Place) (old : Counters) (zeroed : Zeroed) (at : Place) →
    (eqb (get_or row counter_a 0) 0 && eqb (get_or row counter_b 0) 0) ≡ true →
    update_counters row values old zeroed at ≡ Ok (untallied old zeroed at)
unfolding update_counters tally_a tally_b update_one
uncounted row values old zeroed at e =
    let none-a = and_left (eqb (get_or row counter_a 0) 0) (eqb (get_or row counter_b 0) 0) e in
    let none-b = and_right (eqb (get_or row counter_a 0) 0) (eqb (get_or row counter_b 0) 0) e in
    rw (none-a, none-b, or_false zeroed.counter_a, or_false zeroed.counter_b)
