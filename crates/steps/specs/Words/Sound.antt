-- Tables that pass their checks and draw nothing outside ask only for what words can serve: in every state of every machine the
-- distributions that the steps sample are absent or Uniform with valid bounds (`sound`). Assumes nothing.
use Prim.Native.Nat.{ℕ, ◌+◌, ◌-◌, ◌*◌, ◌/◌, ◌%◌, ◌≤◌, ◌<◌, min}
use Rattle.std.proofs.Math.Decide.{dec_lt}
use native.Mathlib.Omega.{arith}
use Rattle.std.specs.Prelude.{Bool, true, false, cond, not, ◌&&◌, ◌||◌, List, [], ◌⊎◌, ◌≡◌, refl, eqb, length, get_or, drop}
use Rattle.std.proofs.Common.{true≢false, inl, inr, sym, subst, lit<, length-take, length-drop, drop_of_length-le, eqb-true}
use Rattle.std.specs.Float.{binary64}
use Rattle.std.specs.Float.Ieee.Bits.{of_bits-fits}
use Rattle.std.proofs.Math.ListN.{get_or-eq_default}
use Rattle.std.proofs.Math.Seq.{take-nil}
use Rattle.std.proofs.lemmas.Bool.{eqb-false}
use Rattle.machine.specs.Constants.{timeout, duration, limit, counter_a, counter_b, machine_words, state_words, first_state, num_states, send_padding, block_outgoing, update_timer}
use Rattle.machine.specs.State.{rows_of, state_row}
use Rattle.samples.specs.Action.{action_of, may_limit, has_limit}
use Rattle.dists.specs.Dist.{f64_at, dist_type, dist_at, valid_type, validate}
use Rattle.dists.specs.declared.DistType.TheVariants.{Absent, Uniform, Outside}
use Rattle.outside.specs.Outside.{drawn_outside, draws_outside}
use Rattle.outside.specs.Outside.Laws.{Inside, inside, outside_false}
use Rattle.tables.specs.Valid.{ValidDist, KnownCounter, ValidCounter, ValidState}
use Rattle.tables.proofs.Valid.Laws.{zero_valid}
use Rattle.tables.specs.Valid.Tests.{or_some}
use Rattle.steps.specs.Events.{Tables, machine_word, states_of}
use Rattle.steps.specs.Framework.{rows_in}
use Rattle.steps.specs.Play.{TypeServed, RowServed}
use Rattle.steps.specs.Targets.{Passed, states_in, word, valid_state}

-- whatever the machine and the state
abbrev pub Sound : Tables → Type 0
Sound T = (i state : ℕ) → RowServed (state_row (states_of T i) state)

-- ---- a distribution of kind 0, 1 or 2 that is valid and not drawn outside
dist_served : (row : List ℕ) (k : ℕ) → get_or row k 0 ≤ 2 → ValidDist row k → drawn_outside row k ≡ false
    → TypeServed (dist_at row k).dist
unfolding dist_at dist_type validate
dist_served row k known valid not_outside =
    by (eqb (get_or row k 0) 0) (eqb (get_or row k 0) 1) (eqb-false (get_or row k 0) 0) (eqb-false (get_or row k 0) 1) valid
  where
    by : (a b : Bool) → (a ≡ false → get_or row k 0 ≡ 0 → ⊥) → (b ≡ false → get_or row k 0 ≡ 1 → ⊥)
        → valid_type (cond a Absent (cond b (Uniform (f64_at row (k + 1)) (f64_at row (k + 2))) Outside)) ≡ true
        → TypeServed (cond a Absent (cond b (Uniform (f64_at row (k + 1)) (f64_at row (k + 2))) Outside))
    by true b p q v = tt
    by false true p q v = record {
      valid = v;
      low_fits = of_bits-fits binary64 (get_or row (k + 1) 0);
    }
    by false false p q v =
        let zero-not = p refl in
        let one-not = q refl in
        let two-not = eqb-false (get_or row k 0) 2 not_outside in
        other (get_or row k 0) known zero-not one-not two-not
      where
        other : (n : ℕ) → n ≤ 2 → (n ≡ 0 → ⊥) → (n ≡ 1 → ⊥) → (n ≡ 2 → ⊥) → ⊥
        other n h a b c = omega arith

-- ---- a state that was checked, and whose used fields are not drawn outside
counter_served : (row : List ℕ) (k : ℕ) → KnownCounter row k → ValidCounter row k
    → (eqb (get_or row k 0) 0 ≡ false → drawn_outside row (k + 2) ≡ false)
    → eqb (get_or row k 0) 0 ≡ false → TypeServed (dist_at row (k + 2)).dist
counter_served row k (inl e) v i u = absurd (eqb-false (get_or row k 0) 0 u e)
counter_served row k (inr c) (inl e) i u = absurd (eqb-false (get_or row k 0) 0 u e)
counter_served row k (inr c) (inr v) i u = dist_served row (k + 2) c.1.1 v (i u)

one_of : (a p q : ℕ) → (eqb a p || eqb a q) ≡ true → (a ≡ p) ⊎ (a ≡ q)
one_of a p q e = by (or_some (eqb a p) (eqb a q) e)
  where
    by : (eqb a p ≡ true) ⊎ (eqb a q ≡ true) → (a ≡ p) ⊎ (a ≡ q)
    by (inl e) = inl (eqb-true a p e)
    by (inr e) = inr (eqb-true a q e)

checked_served : (ts : List ℕ) (n : ℕ) (row : List ℕ) → ValidState ts n row → Inside row → RowServed row
unfolding has_limit
checked_served ts n row v i = record {
  timeout = λ u. timed (one_of (action_of row) send_padding block_outgoing u) (i.timeout u);
  duration = λ u. lasting (one_of (action_of row) block_outgoing update_timer u) (i.duration u);
  limit = λ u. limited (may_limit row) refl (not (eqb (get_or row limit 0) 0)) u;
  counter_a_lem = counter_served row counter_a v.codes.a v.dists.a i.a;
  counter_b_lem = counter_served row counter_b v.codes.b v.dists.b i.b;
}
  where
    timed : (action_of row ≡ send_padding) ⊎ (action_of row ≡ block_outgoing) → drawn_outside row timeout ≡ false
        → TypeServed (dist_at row timeout).dist
    timed o d = dist_served row timeout (known o) (v.dists.action.timeout o) d
      where
        known : (action_of row ≡ send_padding) ⊎ (action_of row ≡ block_outgoing) → get_or row timeout 0 ≤ 2
        known (inl e) = (v.codes.action.timeout (omega arith) (omega arith)).1
        known (inr e) = (v.codes.action.timeout (omega arith) (omega arith)).1

    lasting : (action_of row ≡ block_outgoing) ⊎ (action_of row ≡ update_timer) → drawn_outside row duration ≡ false
        → TypeServed (dist_at row duration).dist
    lasting o d = dist_served row duration (known o) (v.dists.action.duration o) d
      where
        known : (action_of row ≡ block_outgoing) ⊎ (action_of row ≡ update_timer) → get_or row duration 0 ≤ 2
        known (inl e) = (v.codes.action.duration (omega arith)).1
        known (inr e) = (v.codes.action.duration (omega arith)).1

    one_of_three : may_limit row ≡ true
        → (action_of row ≡ send_padding) ⊎ ((action_of row ≡ block_outgoing) ⊎ (action_of row ≡ update_timer))
    one_of_three u = by (or_some (eqb (action_of row) send_padding || eqb (action_of row) block_outgoing) (eqb (action_of row) update_timer) u)
      where
        by : ((eqb (action_of row) send_padding || eqb (action_of row) block_outgoing) ≡ true) ⊎ (eqb (action_of row) update_timer ≡ true)
            → (action_of row ≡ send_padding) ⊎ ((action_of row ≡ block_outgoing) ⊎ (action_of row ≡ update_timer))
        by (inl e) = first (one_of (action_of row) send_padding block_outgoing e)
          where
            first : (action_of row ≡ send_padding) ⊎ (action_of row ≡ block_outgoing)
                → (action_of row ≡ send_padding) ⊎ ((action_of row ≡ block_outgoing) ⊎ (action_of row ≡ update_timer))
            first (inl e) = inl e
            first (inr e) = inr (inl e)
        by (inr e) = inr (inr (eqb-true (action_of row) update_timer e))

    limited : (m : Bool) → may_limit row ≡ m → (b : Bool) → (m && b) ≡ true → TypeServed (dist_at row limit).dist
    limited true e b u = dist_served row limit (known (one_of_three e)) (v.dists.action.limit (one_of_three e)) (i.limit e)
      where
        known : (action_of row ≡ send_padding) ⊎ ((action_of row ≡ block_outgoing) ⊎ (action_of row ≡ update_timer))
            → get_or row limit 0 ≤ 2
        known (inl e) = v.codes.action.limit (omega arith)
        known (inr (inl e)) = v.codes.action.limit (omega arith)
        known (inr (inr e)) = v.codes.action.limit (omega arith)
    limited false e b u = absurd (true≢false (sym u))

-- ---- no row: nothing is sampled
nothing_served : RowServed []
unfolding has_limit
nothing_served = record {
  timeout = λ u. absurd (true≢false (sym u));
  duration = λ u. absurd (true≢false (sym u));
  limit = λ u. absurd (true≢false (sym u));
  counter_a_lem = λ u. absurd (true≢false u);
  counter_b_lem = λ u. absurd (true≢false u);
}

beyond : (rows : List ℕ) (state : ℕ) → length rows ≤ state * state_words → RowServed (state_row rows state)
unfolding rows_of
beyond rows state h = rw (drop_of_length-le rows {i = state * state_words} h, take-nil) nothing_served

-- ---- THEOREM: such tables ask for nothing that words cannot serve.
module _ (T : Tables) (passed : Passed T) (served : draws_outside T.machines T.states ≡ false) where
  rows_most : (i : ℕ) → length (states_of T i) ≤ states_in T i * state_words
  unfolding rows_of
  rows_most i =
      most (length (drop (machine_word T.machines i first_state * state_words) T.states))
      (length-take (states_in T i * state_words) (drop (machine_word T.machines i first_state * state_words) T.states))
    where
      most : {a b : ℕ} (c : ℕ) → a ≡ min b c → a ≤ b
      most c e = omega arith

  -- a machine that the tables have
  module _ (i : ℕ) (h : i < rows_in T.machines) where
    rows_all : length (states_of T i) / state_words ≡ states_in T i
    unfolding rows_of
    rows_all =
        let within = ((zero_valid T.machines T.states T.transitions passed).each i h).place.within in
        all (word T passed i h first_state (lit< tt)) (word T passed i h num_states (lit< tt)) within
        (length-take (states_in T i * state_words) (drop (machine_word T.machines i first_state * state_words) T.states))
        (length-drop (machine_word T.machines i first_state * state_words) T.states)
      where
        all : {first n first' n' l a b : ℕ} → first ≡ first' → n ≡ n' → (first + n) * state_words ≤ l
            → a ≡ min (n' * state_words) b → b ≡ l - first' * state_words → a / state_words ≡ n'
        all e f w p q = omega (arith, e, f, w, p, q)

    in-machine : (state : ℕ) → RowServed (state_row (states_of T i) state)
    in-machine state = elim (dec_lt state (states_in T i)) [
      | yes l ↦
          checked_served T.transitions (states_in T i) (state_row (states_of T i) state) (valid_state T passed i h state l)
          (inside (state_row (states_of T i) state)
          (outside_false T.machines T.states served i h state (subst (λ (n : ℕ). state < n) (sym rows_all) l)))
      | no l ↦ beyond (states_of T i) state (let m = rows_most i in omega arith)
    ]

  -- one that they do not have has no states
  no-machine : (i : ℕ) → rows_in T.machines ≤ i → (state : ℕ) → RowServed (state_row (states_of T i) state)
  no-machine i h state =
      beyond (states_of T i) state
      (let m = rows_most i in
      let whole = (zero_valid T.machines T.states T.transitions passed).whole.machine_rows_lem in
      let none : states_in T i ≡ 0 = get_or-eq_default T.machines 0 (past (length T.machines) h whole) in
      none_left m none)
    where
      past : (l : ℕ) → l / machine_words ≤ i → l % machine_words ≡ 0 → l ≤ i * machine_words + num_states
      past l h w = omega arith

      none_left : {a n : ℕ} → a ≤ n * state_words → n ≡ 0 → a ≤ state * state_words
      none_left m e = omega (arith, m, e)

  pub sound : Sound T
  sound i state = elim (dec_lt i (rows_in T.machines)) [
    | yes h ↦ in-machine i h state
    | no h ↦ no-machine i (omega arith) state
  ]
