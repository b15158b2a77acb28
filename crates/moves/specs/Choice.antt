-- The choice of a next state as a definition of its own: what a transition does before it goes to one.
use Rattle.std.specs.Prelude.{Result, Ok, Err, Option, None}
use Rattle.machine.specs.declared.source.Draw.{Draw}
use Rattle.std.specs.Prelude.{ℕ, List, Bool, cond, ◌||◌, eqb, Float}
use Rattle.machine.specs.Constants.{state_end}
use Rattle.machine.specs.Source.{Drawn, draw, chance_draw}
use Rattle.machine.specs.State.{state_row, first_of, count_of, sample_state}
use Rattle.machine.specs.declared.source.Place.{Place}

-- nothing is drawn: the machine has ended, or its state has no row for the event
unfoldable pub idle : List ℕ → ℕ → ℕ → Bool
idle rows state event = eqb state state_end || eqb (count_of (state_row rows state) event) 0

abbrev pub chosen_by : List ℕ → List ℕ → ℕ → Result (Draw Float) ℕ → Result (Draw (Option ℕ)) ℕ
chosen_by row transitions event (Err n) = Err n
chosen_by row transitions event (Ok d) =
    Ok (draw (sample_state transitions (first_of row event) (count_of row event) d.value) d.at)

unfoldable pub choose : List ℕ → List ℕ → (Place → Drawn Place Float) → ℕ → ℕ → Place → Result (Draw (Option ℕ)) ℕ
choose rows transitions chance state event at =
    cond (idle rows state event) (Ok (draw None at)) (chosen_by (state_row rows state) transitions event (chance_draw chance at))
