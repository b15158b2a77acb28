-- Where nothing is drawn outside, no state of any machine draws outside, field by field; and one that does is found. Assumes nothing.
use Rattle.std.specs.Prelude.{ℕ, zero, suc, ◌+◌, ◌/◌, ◌<◌, ◌≡◌, List, Bool, true, false, not, ◌&&◌, ◌||◌, length, get_or, eqb}
use Rattle.std.proofs.Common.{le_of_suc-le-suc, not-suc-le-zero, eq-or-lt_of_le, add-one, sym, ◌∙◌, ⊎_elim}
use Rattle.std.proofs.Math.Path.{refl}
use Rattle.machine.specs.Constants.{timeout, duration, limit, counter_a, counter_b, machine_words, state_words}
use Rattle.machine.specs.State.{state_row}
use Rattle.samples.specs.Action.{has_timeout, has_duration, may_limit}
use Rattle.tables.specs.Valid.Tests.{clash, or_none, none_or}
use Rattle.outside.specs.Outside.{drawn_outside, counter_outside, state_outside, states_outside, own_rows, machines_outside, draws_outside}

-- ---- g n: whether f holds of one of the first n
module _ (g f : ℕ → Bool) (more : (n : ℕ) → g (suc n) ≡ (g n || f n)) where
  none : (n : ℕ) → g n ≡ false → (i : ℕ) → i < n → f i ≡ false
  none zero e i h = absurd (not-suc-le-zero h)
  none (suc n) e i h =
      let both = or_none (g n) (f n) (sym (more n) ∙ e) in
      ⊎_elim (λ p. rw p both.1) (λ l. none n both.0 i l) (eq-or-lt_of_le (le_of_suc-le-suc h))

  some : (n i : ℕ) → i < n → f i ≡ true → g n ≡ true
  some n i h here = either (g n) refl
    where
      either : (b : Bool) → g n ≡ b → g n ≡ true
      either true e = e
      either false e = absurd (clash here (none n e i h))

  on : (n : ℕ) → g n ≡ false → f n ≡ false → g (n + 1) ≡ false
  on n e here = rw (add-one n) (more n ∙ none_or e here)

-- ---- the states of a machine, whose rows are given
module _ (rows : List ℕ) where
  abbrev at : ℕ → Bool
  at s = state_outside (state_row rows s)

  more-states : (n : ℕ) → states_outside rows (suc n) ≡ (states_outside rows n || at n)
  unfolding states_outside
  more-states n = refl

  pub states_none : (n : ℕ) → states_outside rows n ≡ false → (s : ℕ) → s < n → state_outside (state_row rows s) ≡ false
  states_none = none (states_outside rows) at more-states

  pub states_some : (n s : ℕ) → s < n → state_outside (state_row rows s) ≡ true → states_outside rows n ≡ true
  states_some = some (states_outside rows) at more-states

  pub states_on : (n : ℕ) → states_outside rows n ≡ false → state_outside (state_row rows n) ≡ false → states_outside rows (n + 1) ≡ false
  states_on = on (states_outside rows) at more-states

-- ---- the machines
-- all states of machine i
abbrev pub machine_outside : List ℕ → List ℕ → ℕ → Bool
machine_outside machines states i =
    states_outside (own_rows machines states i) (length (own_rows machines states i) / state_words)

module _ (machines states : List ℕ) where
  more-machines : (n : ℕ) → machines_outside machines states (suc n) ≡ (machines_outside machines states n || machine_outside machines states n)
  unfolding machines_outside
  more-machines n = refl

  pub machines_none : (n : ℕ) → machines_outside machines states n ≡ false → (i : ℕ) → i < n → machine_outside machines states i ≡ false
  machines_none = none (machines_outside machines states) (machine_outside machines states) more-machines

  pub machines_some : (n i : ℕ) → i < n → machine_outside machines states i ≡ true → machines_outside machines states n ≡ true
  machines_some = some (machines_outside machines states) (machine_outside machines states) more-machines

  pub machines_on : (n : ℕ) → machines_outside machines states n ≡ false → machine_outside machines states n ≡ false →
      machines_outside machines states (n + 1) ≡ false
  machines_on = on (machines_outside machines states) (machine_outside machines states) more-machines

pub outside_false : (machines states : List ℕ) → draws_outside machines states ≡ false →
    (i : ℕ) → i < length machines / machine_words →
    (s : ℕ) → s < length (own_rows machines states i) / state_words →
    state_outside (state_row (own_rows machines states i) s) ≡ false
unfolding draws_outside
outside_false machines states e i h s l =
    states_none (own_rows machines states i) (length (own_rows machines states i) / state_words)
    (machines_none machines states (length machines / machine_words) e i h) s l

-- ---- the fields of a state
-- no used field is drawn outside
pub record Inside (row : List ℕ) : Type 0 where
  pub timeout : has_timeout row ≡ true → drawn_outside row timeout ≡ false
  pub duration : has_duration row ≡ true → drawn_outside row duration ≡ false
  pub limit : may_limit row ≡ true → drawn_outside row limit ≡ false
  pub a : eqb (get_or row counter_a 0) 0 ≡ false → drawn_outside row (counter_a + 2) ≡ false
  pub b : eqb (get_or row counter_b 0) 0 ≡ false → drawn_outside row (counter_b + 2) ≡ false

used : (a b : Bool) → a && b ≡ false → a ≡ true → b ≡ false
used true b e p = e
used false b e p = absurd (clash p refl)

counted : (a b : Bool) → not a && b ≡ false → a ≡ false → b ≡ false
counted true b e p = absurd (clash refl p)
counted false b e p = e

pub inside : (row : List ℕ) → state_outside row ≡ false → Inside row
unfolding state_outside
inside row e =
    let four = or_none _ (counter_outside row counter_b) e in
    let three = or_none _ (counter_outside row counter_a) four.0 in
    let two = or_none _ (may_limit row && drawn_outside row limit) three.0 in
    let one = or_none (has_timeout row && drawn_outside row timeout) (has_duration row && drawn_outside row duration) two.0 in
    record {
      timeout = used _ _ one.0;
      duration = used _ _ one.1;
      limit = used _ _ two.1;
      a = counted _ _ three.1;
      b = counted _ _ four.1;
    }

-- ---- where no distribution of a state is drawn outside, used or not, the state draws nothing outside
unused : (a : Bool) {b : Bool} → b ≡ false → a && b ≡ false
unused true e = e
unused false e = refl

pub none_outside : (row : List ℕ) (t d l a b : Bool) → t ≡ drawn_outside row timeout → d ≡ drawn_outside row duration → l ≡ drawn_outside row limit
    → a ≡ drawn_outside row (counter_a + 2) → b ≡ drawn_outside row (counter_b + 2) → t || d || l || a || b ≡ false → state_outside row ≡ false
unfolding state_outside
none_outside row t d l a b t-is d-is l-is a-is b-is e =
    let four = or_none (t || d || l || a) b e in
    let three = or_none (t || d || l) a four.0 in
    let two = or_none (t || d) l three.0 in
    let one = or_none t d two.0 in
    none_or
    (none_or
    (none_or
    (none_or (unused (has_timeout row) (sym t-is ∙ one.0)) (unused (has_duration row) (sym d-is ∙ one.1)))
    (unused (may_limit row) (sym l-is ∙ two.1)))
    (unused (not (eqb (get_or row counter_a 0) 0)) (sym a-is ∙ three.1)))
    (unused (not (eqb (get_or row counter_b 0) 0)) (sym b-is ∙ four.1))
