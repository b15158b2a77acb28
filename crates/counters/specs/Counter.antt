-- A counter's update in two parts, its new value with the draw that it takes and what becomes of the counter; and the law that they
-- are the update (`update_one_is`). Assumes nothing.
use Rattle.std.specs.Prelude.{Result, Ok, Err}
use Rattle.machine.specs.declared.source.Draw.{Draw}
use Rattle.steps.specs.declared.Counter.{Counter}
use Rattle.std.specs.Prelude.{ℕ, List, Bool, true, false, cond, not, ◌&&◌, ◌≡◌, refl, get_or, eqb}
use Rattle.machine.specs.Source.{Values}
use Rattle.machine.specs.declared.source.Place.{Place}
use Rattle.dists.specs.Dist.{got_whole}
use Rattle.steps.specs.Transition.{applied, reports_zero, counter_of, changed_by, change_of, update_one}

abbrev pub applied_to : ℕ → ℕ → Result (Draw ℕ) ℕ → Result (Draw ℕ) ℕ
applied_to operation old (Err n) = Err n
applied_to operation old (Ok w) = got_whole (applied operation old w.value) w.at

-- the counter that begins at word k of the row
unfoldable pub value_after : List ℕ → ℕ → Values Place → Place → ℕ → ℕ → Result (Draw ℕ) ℕ
value_after row k values at old other =
    cond (eqb (get_or row k 0) 0) (got_whole old at) (applied_to (get_or row k 0) old (change_of row k values at other))

abbrev pub counter_after : ℕ → Bool → Result (Draw ℕ) ℕ → Result Counter ℕ
counter_after old zeroed (Err n) = Err n
counter_after old zeroed (Ok w) = counter_of (reports_zero old w.value zeroed) w.value zeroed w.at

-- ---- a counter without an update keeps its value, and so reports nothing
module _ (zeroed : Bool) where
  never : (none : Bool) → (not none && none && not zeroed) ≡ false
  never true = refl
  never false = refl

  module _ (old : ℕ) (at : Place) (operation : ℕ) where
    by : (absent : Bool) (x : Result (Draw ℕ) ℕ) →
        cond absent (counter_of false old zeroed at) (changed_by operation old zeroed x)
        ≡ counter_after old zeroed (cond absent (got_whole old at) (applied_to operation old x))
    by true x = rw (never (eqb old 0))
    by false (Err n) = refl
    by false (Ok w) = refl

pub update_one_is : (row : List ℕ) (k : ℕ) (values : Values Place) (at : Place) (old other : ℕ) (zeroed : Bool) →
    update_one row k values at old other zeroed ≡ counter_after old zeroed (value_after row k values at old other)
unfolding update_one value_after
update_one_is row k values at old other zeroed =
    by zeroed old at (get_or row k 0) (eqb (get_or row k 0) 0) (change_of row k values at other)
