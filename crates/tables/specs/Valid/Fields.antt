-- A state's codes and distributions: the tests of 14 and 15 say what `Valid` says in plain words, both ways. Assumes nothing.
use Rattle.std.specs.Prelude.{ℕ, ◌+◌, ◌≤◌, ◌<◌, ◌≡◌, List, Bool, ◌||◌, ◌⊎◌, get_or}
use Rattle.std.proofs.Common.{arith, true≢false}
use Rattle.std.proofs.Math.Path.{refl}
use Rattle.std.proofs.Math.Bool.{true, false, cond}
use Rattle.std.proofs.Math.Logic.{inl, inr}
use Rattle.std.proofs.Math.Dec.{ltb, eqb}
use borrow.Author.Tests.{ltb-false, le-ltb, eqb-true, eqb-false, eq-eqb, ne_eqb, not-false}
use Rattle.machine.specs.Constants.{flags, timer, timeout, duration, limit, counter_a, counter_b}
use Rattle.dists.specs.Dist.{dist_at, validate}
use Rattle.samples.specs.Action.{action_of}
use Rattle.tables.specs.State.{needed_unknown, common_unknown, action_unknown, counter_unknown, codes_unknown, invalid, action_invalid, counter_invalid, dists_invalid}
use Rattle.tables.specs.Valid.{KnownAction, KnownCounter, KnownCodes, ValidDist, ValidAction, ValidCounter, ValidDists}
use Rattle.tables.specs.Valid.Tests.{or_none, none_or}

-- ---- codes
-- a distribution that is needed
needed : (kind : ℕ) → needed_unknown kind ≡ false → (0 < kind) × (kind ≤ 2)
unfolding needed_unknown
needed kind e =
    let p = or_none (eqb kind 0) (ltb 2 kind) e in
    let some : kind ≡ 0 → ⊥ = eqb-false kind 0 p.0 in
    (omega arith, ltb-false 2 kind p.1)

of_needed : (kind : ℕ) → (0 < kind) × (kind ≤ 2) → needed_unknown kind ≡ false
unfolding needed_unknown
of_needed kind h = none_or (ne_eqb kind 0 (λ z. omega (arith, h.0))) (le-ltb 2 kind h.1)

common : (row : List ℕ) → common_unknown row ≡ false → (get_or row flags 0 ≤ 3) × (get_or row limit 0 ≤ 2)
unfolding common_unknown
common row e = let p = or_none _ _ e in (ltb-false 3 _ p.0, ltb-false 2 _ p.1)

of_common : (row : List ℕ) → get_or row flags 0 ≤ 3 → get_or row limit 0 ≤ 2 → common_unknown row ≡ false
unfolding common_unknown
of_common row f l = none_or (le-ltb 3 _ f) (le-ltb 2 _ l)

-- which action it is, with the tests before it
data Which (a : ℕ) : Type 0 where
  is_none : a ≡ 0 → Which a
  is-cancel : eqb a 0 ≡ false → a ≡ 1 → Which a
  is-padding : eqb a 0 ≡ false → eqb a 1 ≡ false → a ≡ 2 → Which a
  is_block : eqb a 0 ≡ false → eqb a 1 ≡ false → eqb a 2 ≡ false → a ≡ 3 → Which a
  is-timer : eqb a 0 ≡ false → eqb a 1 ≡ false → eqb a 2 ≡ false → eqb a 3 ≡ false → a ≡ 4 → Which a
  is-other : eqb a 0 ≡ false → eqb a 1 ≡ false → eqb a 2 ≡ false → eqb a 3 ≡ false → eqb a 4 ≡ false → Which a

which : (a : ℕ) → Which a
which a = at0 (eqb a 0) refl
  where
    at4 : eqb a 0 ≡ false → eqb a 1 ≡ false → eqb a 2 ≡ false → eqb a 3 ≡ false → (b : Bool) → eqb a 4 ≡ b → Which a
    at4 p q r s true e = is-timer p q r s (eqb-true a 4 e)
    at4 p q r s false e = is-other p q r s e

    at3 : eqb a 0 ≡ false → eqb a 1 ≡ false → eqb a 2 ≡ false → (b : Bool) → eqb a 3 ≡ b → Which a
    at3 p q r true e = is_block p q r (eqb-true a 3 e)
    at3 p q r false e = at4 p q r e (eqb a 4) refl

    at2 : eqb a 0 ≡ false → eqb a 1 ≡ false → (b : Bool) → eqb a 2 ≡ b → Which a
    at2 p q true e = is-padding p q (eqb-true a 2 e)
    at2 p q false e = at3 p q e (eqb a 3) refl

    at1 : eqb a 0 ≡ false → (b : Bool) → eqb a 1 ≡ b → Which a
    at1 p true e = is-cancel p (eqb-true a 1 e)
    at1 p false e = at2 p e (eqb a 2) refl

    at0 : (b : Bool) → eqb a 0 ≡ b → Which a
    at0 true e = is_none (eqb-true a 0 e)
    at0 false e = at1 e (eqb a 1) refl

pub known_action : (row : List ℕ) → action_unknown row ≡ false → KnownAction row
unfolding action_unknown
known_action row e = by (which (action_of row))
  where
    by : Which (action_of row) → KnownAction row
    by (is_none p) = record {
      action = omega arith;
      timer = λ h. absurd (omega arith);
      flags = λ h. absurd (omega arith);
      limit = λ h. absurd (omega arith);
      timeout = λ h k. absurd (omega arith);
      duration = λ h. absurd (omega arith);
    }
    by (is-cancel z p) = record {
      action = omega arith;
      timer = λ h. ltb-false 2 (get_or row timer 0) (rw (z, eq-eqb (action_of row) 1 p) at e);
      flags = λ h. absurd (omega arith);
      limit = λ h. absurd (omega arith);
      timeout = λ h k. absurd (omega arith);
      duration = λ h. absurd (omega arith);
    }
    by (is-padding z o p) =
        let u = or_none (common_unknown row) (needed_unknown (get_or row timeout 0)) (rw (z, o, eq-eqb (action_of row) 2 p) at e) in
        let c = common row u.0 in
        record {
          action = omega arith;
          timer = λ h. absurd (omega arith);
          flags = λ h. c.0;
          limit = λ h. c.1;
          timeout = λ h k. needed (get_or row timeout 0) u.1;
          duration = λ h. absurd (omega arith);
        }
    by (is_block z o w p) =
        let u =
        or_none (common_unknown row || needed_unknown (get_or row timeout 0)) (needed_unknown (get_or row duration 0))
        (rw (z, o, w, eq-eqb (action_of row) 3 p) at e) in
        let v = or_none (common_unknown row) (needed_unknown (get_or row timeout 0)) u.0 in
        let c = common row v.0 in
        record {
          action = omega arith;
          timer = λ h. absurd (omega arith);
          flags = λ h. c.0;
          limit = λ h. c.1;
          timeout = λ h k. needed (get_or row timeout 0) v.1;
          duration = λ h. needed (get_or row duration 0) u.1;
        }
    by (is-timer z o w t p) =
        let u = or_none (common_unknown row) (needed_unknown (get_or row duration 0)) (rw (z, o, w, t, eq-eqb (action_of row) 4 p) at e) in
        let c = common row u.0 in
        record {
          action = omega arith;
          timer = λ h. absurd (omega arith);
          flags = λ h. c.0;
          limit = λ h. c.1;
          timeout = λ h k. absurd (omega arith);
          duration = λ h. needed (get_or row duration 0) u.1;
        }
    by (is-other z o w t f) = absurd (true≢false (rw (z, o, w, t, f) at e))

pub of_known_action : (row : List ℕ) → KnownAction row → action_unknown row ≡ false
unfolding action_unknown
of_known_action row k = by (which (action_of row))
  where
    by : Which (action_of row) → action_unknown row ≡ false
    by (is_none p) = rw (eq-eqb (action_of row) 0 p)
    by (is-cancel z p) = rw (z, eq-eqb (action_of row) 1 p) (le-ltb 2 (get_or row timer 0) (k.timer p))
    by (is-padding z o p) =
        rw (z, o, eq-eqb (action_of row) 2 p)
        (none_or (of_common row (k.flags (omega arith)) (k.limit (omega arith)))
        (of_needed (get_or row timeout 0) (k.timeout (omega arith) (omega arith))))
    by (is_block z o w p) =
        rw (z, o, w, eq-eqb (action_of row) 3 p)
        (none_or
        (none_or (of_common row (k.flags (omega arith)) (k.limit (omega arith)))
        (of_needed (get_or row timeout 0) (k.timeout (omega arith) (omega arith))))
        (of_needed (get_or row duration 0) (k.duration (omega arith))))
    by (is-timer z o w t p) =
        rw (z, o, w, t, eq-eqb (action_of row) 4 p)
        (none_or (of_common row (k.flags (omega arith)) (k.limit (omega arith)))
        (of_needed (get_or row duration 0) (k.duration (omega arith))))
    by (is-other z o w t f) =
        absurd
        (other (action_of row) k.action (eqb-false _ 0 z) (eqb-false _ 1 o) (eqb-false _ 2 w) (eqb-false _ 3 t) (eqb-false _ 4 f))
      where
        other : (a : ℕ) → a ≤ 4 → (a ≡ 0 → ⊥) → (a ≡ 1 → ⊥) → (a ≡ 2 → ⊥) → (a ≡ 3 → ⊥) → (a ≡ 4 → ⊥) → ⊥
        other a h p q r s u = omega arith

module _ (row : List ℕ) (k : ℕ) where
  pub known_counter : counter_unknown row k ≡ false → KnownCounter row k
  unfolding counter_unknown
  known_counter e = by (eqb (get_or row k 0) 0) refl
    where
      by : (b : Bool) → eqb (get_or row k 0) 0 ≡ b → KnownCounter row k
      by true p = inl (eqb-true _ 0 p)
      by false p =
          let u = or_none (ltb 3 (get_or row k 0) || ltb 1 (get_or row (k + 1) 0)) (ltb 2 (get_or row (k + 2) 0)) (rw p at e) in
          let v = or_none (ltb 3 (get_or row k 0)) (ltb 1 (get_or row (k + 1) 0)) u.0 in
          inr (ltb-false 3 _ v.0, (ltb-false 1 _ v.1, ltb-false 2 _ u.1))

  pub of_known_counter : KnownCounter row k → counter_unknown row k ≡ false
  unfolding counter_unknown
  of_known_counter (inl h) = rw (eq-eqb (get_or row k 0) 0 h)
  of_known_counter (inr (o, (c, d))) = by (eqb (get_or row k 0) 0)
    where
      by : (b : Bool) → cond b false (ltb 3 (get_or row k 0) || ltb 1 (get_or row (k + 1) 0) || ltb 2 (get_or row (k + 2) 0)) ≡ false
      by true = refl
      by false = none_or (none_or (le-ltb 3 _ o) (le-ltb 1 _ c)) (le-ltb 2 _ d)

module _ (row : List ℕ) where
  pub known_codes : codes_unknown row ≡ false → KnownCodes row
  unfolding codes_unknown
  known_codes e =
      let u = or_none (action_unknown row || counter_unknown row counter_a) (counter_unknown row counter_b) e in
      let v = or_none (action_unknown row) (counter_unknown row counter_a) u.0 in
      record { action = known_action row v.0; a = known_counter row counter_a v.1; b = known_counter row counter_b u.1 }

  pub of_known_codes : KnownCodes row → codes_unknown row ≡ false
  unfolding codes_unknown
  of_known_codes k =
      none_or (none_or (of_known_action row k.action) (of_known_counter row counter_a k.a)) (of_known_counter row counter_b k.b)

-- ---- distributions
valid : (row : List ℕ) (k : ℕ) → invalid row k ≡ false → ValidDist row k
unfolding invalid
valid row k e = not-false (validate (dist_at row k)) e

of_valid : (row : List ℕ) (k : ℕ) → ValidDist row k → invalid row k ≡ false
unfolding invalid
of_valid row k e = rw e

-- which actions have distributions, with the tests before them
data Having (a : ℕ) : Type 0 where
  has-padding : a ≡ 2 → Having a
  has_block : eqb a 2 ≡ false → a ≡ 3 → Having a
  has-timer : eqb a 2 ≡ false → eqb a 3 ≡ false → a ≡ 4 → Having a
  has-none : eqb a 2 ≡ false → eqb a 3 ≡ false → eqb a 4 ≡ false → Having a

having : (a : ℕ) → Having a
having a = at2 (eqb a 2) refl
  where
    at4 : eqb a 2 ≡ false → eqb a 3 ≡ false → (b : Bool) → eqb a 4 ≡ b → Having a
    at4 p q true e = has-timer p q (eqb-true a 4 e)
    at4 p q false e = has-none p q e

    at3 : eqb a 2 ≡ false → (b : Bool) → eqb a 3 ≡ b → Having a
    at3 p true e = has_block p (eqb-true a 3 e)
    at3 p false e = at4 p e (eqb a 4) refl

    at2 : (b : Bool) → eqb a 2 ≡ b → Having a
    at2 true e = has-padding (eqb-true a 2 e)
    at2 false e = at3 e (eqb a 3) refl

two : {a x y : ℕ} {P : Type 0} → (a ≡ x → ⊥) → (a ≡ y → ⊥) → (a ≡ x) ⊎ (a ≡ y) → P
two p q (inl e) = absurd (p e)
two p q (inr e) = absurd (q e)

three : {a x y z : ℕ} {P : Type 0} → (a ≡ x → ⊥) → (a ≡ y → ⊥) → (a ≡ z → ⊥) → (a ≡ x) ⊎ ((a ≡ y) ⊎ (a ≡ z)) → P
three p q r (inl e) = absurd (p e)
three p q r (inr e) = two q r e

module _ (row : List ℕ) where
  pub valid_action : action_invalid row ≡ false → ValidAction row
  unfolding action_invalid
  valid_action e = by (having (action_of row))
    where
      by : Having (action_of row) → ValidAction row
      by (has-padding p) =
          let u = or_none (invalid row timeout) (invalid row limit) (rw (eq-eqb (action_of row) 2 p) at e) in
          record {
            timeout = λ h. valid row timeout u.0;
            duration = two (λ q. omega arith) (λ q. omega arith);
            limit = λ h. valid row limit u.1;
          }
      by (has_block w p) =
          let u = or_none (invalid row timeout || invalid row duration) (invalid row limit) (rw (w, eq-eqb (action_of row) 3 p) at e) in
          let v = or_none (invalid row timeout) (invalid row duration) u.0 in
          record {
            timeout = λ h. valid row timeout v.0;
            duration = λ h. valid row duration v.1;
            limit = λ h. valid row limit u.1;
          }
      by (has-timer w t p) =
          let u = or_none (invalid row duration) (invalid row limit) (rw (w, t, eq-eqb (action_of row) 4 p) at e) in
          record {
            timeout = two (λ q. omega arith) (λ q. omega arith);
            duration = λ h. valid row duration u.0;
            limit = λ h. valid row limit u.1;
          }
      by (has-none w t f) = record {
        timeout = two (eqb-false _ 2 w) (eqb-false _ 3 t);
        duration = two (eqb-false _ 3 t) (eqb-false _ 4 f);
        limit = three (eqb-false _ 2 w) (eqb-false _ 3 t) (eqb-false _ 4 f);
      }

  pub of_valid_action : ValidAction row → action_invalid row ≡ false
  unfolding action_invalid
  of_valid_action v = by (having (action_of row))
    where
      by : Having (action_of row) → action_invalid row ≡ false
      by (has-padding p) =
          rw (eq-eqb (action_of row) 2 p)
          (none_or (of_valid row timeout (v.timeout (inl p))) (of_valid row limit (v.limit (inl p))))
      by (has_block w p) =
          rw (w, eq-eqb (action_of row) 3 p)
          (none_or (none_or (of_valid row timeout (v.timeout (inr p))) (of_valid row duration (v.duration (inl p))))
          (of_valid row limit (v.limit (inr (inl p)))))
      by (has-timer w t p) =
          rw (w, t, eq-eqb (action_of row) 4 p)
          (none_or (of_valid row duration (v.duration (inr p))) (of_valid row limit (v.limit (inr (inr p)))))
      by (has-none w t f) = rw (w, t, f)

module _ (row : List ℕ) (k : ℕ) where
  pub valid_counter : counter_invalid row k ≡ false → ValidCounter row k
  unfolding counter_invalid
  valid_counter e = by (eqb (get_or row k 0) 0) refl
    where
      by : (b : Bool) → eqb (get_or row k 0) 0 ≡ b → ValidCounter row k
      by true p = inl (eqb-true _ 0 p)
      by false p = inr (valid row (k + 2) (rw p at e))

  pub of_valid_counter : ValidCounter row k → counter_invalid row k ≡ false
  unfolding counter_invalid
  of_valid_counter (inl h) = rw (eq-eqb (get_or row k 0) 0 h)
  of_valid_counter (inr h) = by (eqb (get_or row k 0) 0)
    where
      by : (b : Bool) → cond b false (invalid row (k + 2)) ≡ false
      by true = refl
      by false = of_valid row (k + 2) h

module _ (row : List ℕ) where
  pub valid_dists : dists_invalid row ≡ false → ValidDists row
  unfolding dists_invalid
  valid_dists e =
      let u = or_none (action_invalid row || counter_invalid row counter_a) (counter_invalid row counter_b) e in
      let v = or_none (action_invalid row) (counter_invalid row counter_a) u.0 in
      record { action = valid_action row v.0; a = valid_counter row counter_a v.1; b = valid_counter row counter_b u.1 }

  pub of_valid_dists : ValidDists row → dists_invalid row ≡ false
  unfolding dists_invalid
  of_valid_dists k =
      none_or (none_or (of_valid_action row k.action) (of_valid_counter row counter_a k.a)) (of_valid_counter row counter_b k.b)
