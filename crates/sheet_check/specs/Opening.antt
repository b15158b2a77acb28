-- What the last number of the line means: an opening with fractions 0 gives it, whatever the time and the draws.
use Rattle.std.specs.Prelude.{ℕ, ◌≡◌, refl, true}
use Rattle.std.proofs.Common.{ne_eqb}
use Rattle.std.specs.Float.Ieee.{of_bits, le}
use Rattle.numbers.specs.Finite.{zero_f}
use Rattle.machine.specs.Source.{Source}
use Rattle.machine.specs.declared.source.Place.{Place}
use Rattle.rows.specs.First.{or_else}
use Rattle.tables.specs.Framework.{is_fraction, fractions_refusal}
use Rattle.tables.specs.Machine.{tables_refusal}
use Rattle.steps.specs.Events.{Tables}
use Rattle.steps.specs.Framework.{opening}

-- fractions 0 are not refused
zero_is_fraction : is_fraction zero_f ≡ true
unfolding is_fraction of_bits le
zero_is_fraction = refl

only_tables : (n : ℕ) → or_else (fractions_refusal zero_f zero_f) n ≡ n
unfolding or_else fractions_refusal
only_tables n = rw zero_is_fraction

-- THEOREM: tables that are refused are refused so by an opening. (Where they are not, an opening can only run out of draws or
-- meet one that is out of range.)
pub opening_refuses : (T : Tables) (time : ℕ) (source : Source Place)
    → (tables_refusal T.machines T.states T.transitions ≡ 0 → ⊥)
    → (opening T zero_f zero_f time source).refusal ≡ tables_refusal T.machines T.states T.transitions
unfolding opening
opening_refuses T time source h =
    let n = tables_refusal T.machines T.states T.transitions in
    rw (only_tables n, ne_eqb n 0 h)
