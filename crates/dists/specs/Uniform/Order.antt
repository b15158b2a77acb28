-- Rounding keeps a value that fits and the order, so a sum x + y with a y that is not below zero is never below x
-- (`sum_keeps`); and of two numbers one is at most the other (`under`). Assumes nothing.
use Rattle.std.specs.Prelude.{ℕ, zero, suc, ◌+◌, ◌-◌, ◌*◌, ◌^◌, ◌≤◌, ◌<◌, Bool, cond, ◌&&◌, ◌||◌, ◌≡◌, refl, ℤ, ltb, eqb, Float}
use Rattle.std.proofs.Common.{le_trans, le_of_eq, le_of_lt, lt_of_not-le, eq-or-lt_of_le, mul-pos, mul-le-mul_right, true≢false, inl, inr, sym, ap, ◌∙◌, subst, eqb→eq, ltb→lt, lt→ltb, pow_pos}
use Rattle.std.proofs.Math.Nat.{sub-zero}
use native.Mathlib.Omega.{arith}
use Rattle.std.proofs.Math.Bool.{true, false}
use Rattle.std.proofs.Math.Dec.{T}
use Rattle.std.specs.Float.{nan, inf, fin, Format}
use Rattle.std.specs.Float.Ieee.{low, up, down, round, neg, sum, add, below, level, lt, le, fits}
use Rattle.std.specs.Float.Ieee.Bits.{is_true}
use Rattle.std.specs.Float.Ieee.Exact.{HasValue}
use Rattle.std.specs.Float.Ieee.Fits.{down_pos, eq→eqb, and_i}
use Rattle.std.specs.Float.Ieee.Order.{round_mono, le_of_values}
use Rattle.std.specs.Float.Ieee.Positive.{through}
use Rattle.std.specs.Float.Ieee.Scale.{finite}
use Rattle.numbers.specs.Fraction.Units.{whole_units, round_units}
use Rattle.dists.specs.Uniform.Signs.{plain, not_negative, round_plain, round_neg, round_zero}

-- ---- tests
or_l : (a b : Bool) → T a → T (a || b)
or_l true b t = tt
or_l false b t = absurd t

or_r : (a b : Bool) → T b → T (a || b)
or_r true b t = tt
or_r false b t = t

le_of_test : (a b : ℕ) → T (ltb a b || (eqb a b && true)) → a ≤ b
le_of_test a b t = go (ltb a b) (eqb a b) (ltb→lt a b) (eqb→eq a b) t
  where
    go : (x y : Bool) → (T x → a < b) → (T y → a ≡ b) → T (x || (y && true)) → a ≤ b
    go true y f g t = le_of_lt (f tt)
    go false true f g t = le_of_eq (g tt)
    go false false f g t = absurd t

-- y tests that the two are equal
test_of_le : (a b : ℕ) (y : Bool) → (a ≡ b → T y) → a ≤ b → T (ltb a b || (y && true))
test_of_le a b y same h = elim (eq-or-lt_of_le h) [
  | inl p ↦ or_r (ltb a b) (y && true) (and_i y true (same p) tt)
  | inr q ↦ or_l (ltb a b) (y && true) (lt→ltb a b q)
]

-- ---- the order and a value that fits: it is a whole number of units, which `round` keeps
abbrev Units : Format → Float → Type 0
Units f x = (k : ℕ) × HasValue x false k (2 ^ low f) × HasValue (round f false k (2 ^ low f)) false k (2 ^ low f)

in_units : (f : Format) (s : Bool) (m : ℕ) (e : ℤ) → T (fits f (fin s m e)) → Units f (fin false m e)
in_units f s zero e t = (0, (refl, zeros (up e) (2 ^ low f) (down e)), round_zero f false (2 ^ low f) (pow_pos (low f)))
  where
    zeros : (a b c : ℕ) → 0 * a * b ≡ 0 * c
    zeros a b c = omega arith
in_units f s (suc m) e t =
    let unsigned : T (fits f (fin false (suc m) e)) = unfold fits in t in
    let u = whole_units f (suc m) e unsigned in
    (suc m * 2 ^ u.0, u.1, round_units f m e (suc m * 2 ^ u.0) unsigned u.1)

-- y and x are the same number
same_above : (z y x : Float) (k l : ℕ) → 0 < l → T (plain z) → HasValue y false k l → HasValue x false k l → T (le z y)
    → T (le z x)
unfolding le
same_above nan y x k l L p v w h = absurd p
same_above (inf s) nan x k l L p v w h = absurd v
same_above (inf s) (inf t) x k l L p v w h = absurd v
same_above (inf true) (fin t n d) x k l L p v w h = absurd p
same_above (inf false) (fin t n d) x k l L p v w h = absurd h
same_above (fin true a b) y x k l L p v w h = absurd p
same_above (fin false a b) nan x k l L p v w h = absurd v
same_above (fin false a b) (inf t) x k l L p v w h = absurd v
same_above (fin false a b) (fin true n d) x k l L p v w h = absurd (true≢false v.0)
same_above (fin false a b) (fin false n d) x k l L p v w h =
    le_of_values (fin false a b) x (a * up b) (down b) k l (down_pos b) L (refl, refl) w
    (through (a * up b) (n * up d) k (down b) (down d) l (down_pos d)
    (le_of_test (a * up b * down d) (n * up d * down b) h) (le_of_eq v.1))

same_below : (z y x : Float) (k l : ℕ) → 0 < l → T (plain z) → HasValue y false k l → HasValue x false k l → T (le y z)
    → T (le x z)
unfolding le
same_below nan y x k l L p v w h = absurd p
same_below (inf true) y x k l L p v w h = absurd p
same_below (inf false) y nan k l L p v w h = absurd w
same_below (inf false) y (inf t) k l L p v w h = absurd w
same_below (inf false) y (fin t n d) k l L p v w h = tt
same_below (fin true a b) y x k l L p v w h = absurd p
same_below (fin false a b) nan x k l L p v w h = absurd v
same_below (fin false a b) (inf t) x k l L p v w h = absurd v
same_below (fin false a b) (fin true n d) x k l L p v w h = absurd (true≢false v.0)
same_below (fin false a b) (fin false n d) x k l L p v w h =
    le_of_values x (fin false a b) k l (a * up b) (down b) L (down_pos b) w (refl, refl)
    (through k (n * up d) (a * up b) l (down d) (down b) (down_pos d)
    (le_of_eq (sym v.1)) (le_of_test (n * up d * down b) (a * up b * down d) h))

-- p / q is at most the value, or at least
round_under : (f : Format) (s : Bool) (m : ℕ) (e : ℤ) (p q : ℕ) → T (fits f (fin s m e)) → 0 < q → p * down e ≤ m * up e * q
    → T (le (round f false p q) (fin false m e))
round_under f s m e p q t Q h =
    let u = in_units f s m e t in
    let L = 2 ^ low f in
    let P = pow_pos (low f) in
    same_above (round f false p q) (round f false u.0 L) (fin false m e) u.0 L P (round_plain f p q) u.2 u.1
    (round_mono f p q u.0 L Q P (through p (m * up e) u.0 q (down e) L (down_pos e) h (le_of_eq u.1.1)))

round_over : (f : Format) (s : Bool) (m : ℕ) (e : ℤ) (p q : ℕ) → T (fits f (fin s m e)) → 0 < q → m * up e * q ≤ p * down e
    → T (le (fin false m e) (round f false p q))
round_over f s m e p q t Q h =
    let u = in_units f s m e t in
    let L = 2 ^ low f in
    let P = pow_pos (low f) in
    same_below (round f false p q) (round f false u.0 L) (fin false m e) u.0 L P (round_plain f p q) u.2 u.1
    (round_mono f u.0 L p q P Q (through u.0 (m * up e) p L (down e) q (down_pos e) (le_of_eq (sym u.1.1)) h))

-- ---- below zero
never_over : (a b : ℕ) → T (ltb 0 (a + b) || (eqb a b && (false || eqb a 0)))
never_over zero zero = tt
never_over zero (suc b) =
    or_l (ltb 0 (0 + suc b)) (eqb 0 (suc b) && (false || eqb 0 0)) (lt→ltb 0 (0 + suc b) (omega arith))
never_over (suc a) b =
    or_l (ltb 0 (suc a + b)) (eqb (suc a) b && (false || eqb (suc a) 0)) (lt→ltb 0 (suc a + b) (omega arith))

minus_below : (m : ℕ) (e : ℤ) (z : Float) → T (plain z) → T (le (fin true m e) z)
unfolding le
minus_below m e nan p = absurd p
minus_below m e (inf true) p = absurd p
minus_below m e (inf false) p = tt
minus_below m e (fin true n d) p = absurd p
minus_below m e (fin false n d) p = never_over (m * up e * down d) (n * up d * down e)

mirrored : (m : ℕ) (e : ℤ) (z : Float) → T (plain z) → T (le z (fin false m e)) → T (le (fin true m e) (neg z))
unfolding le neg
mirrored m e nan p h = absurd p
mirrored m e (inf true) p h = absurd p
mirrored m e (inf false) p h = absurd h
mirrored m e (fin true n d) p h = absurd p
mirrored m e (fin false n d) p h =
    let a = n * up d * down e in
    let b = m * up e * down d in
    test_of_le a b (eqb b a) (λ p. eq→eqb (sym p)) (le_of_test a b h)

round_minus : (f : Format) (m : ℕ) (e : ℤ) (p q : ℕ) → T (fits f (fin true m e)) → 0 < q → p * down e ≤ m * up e * q
    → T (le (fin true m e) (round f true p q))
round_minus f m e p q t Q h =
    rw (round_neg f p q) (mirrored m e (round f false p q) (round_plain f p q) (round_under f true m e p q t Q h))

-- ---- x + y, for a y that is not below zero
plus_plus : (M D E B : ℕ) → M * (D * E) ≤ (M * E + B) * D
plus_plus M D E B = omega arith

plus_none : (M D E B : ℕ) → B ≡ 0 → (M * E + B) * D ≤ M * (D * E)
plus_none M D E B z = rw z (omega arith)

less_none : (M D E B : ℕ) → B ≡ 0 → M * (D * E) ≤ (M * E - B) * D
less_none M D E B z = rw (z, sub-zero) (omega arith)

less : (M D E B : ℕ) → (M * E - B) * D ≤ M * (D * E)
less M D E B = le_trans (mul-le-mul_right D (smaller (M * E) B)) (omega arith)
  where
    smaller : (a b : ℕ) → a - b ≤ a
    smaller a b = omega arith

none : (n a b : ℕ) → T (eqb n 0) → n * a * b ≡ 0
none n a b h = ap (λ (z : ℕ). z * a * b) (eqb→eq n 0 h) ∙ zeros a b
  where
    zeros : (a b : ℕ) → 0 * a * b ≡ 0
    zeros a b = omega arith

-- x is M / down e, or A / C; y is B / C
module _ (f : Format) (m : ℕ) (e : ℤ) (n : ℕ) (d : ℤ) where
  abbrev M : ℕ
  M = m * up e

  abbrev A : ℕ
  A = M * down d

  abbrev B : ℕ
  B = n * up d * down e

  abbrev C : ℕ
  C = down e * down d

  C-pos : 0 < C
  C-pos = mul-pos (down_pos e) (down_pos d)

  sum_over : T (fits f (fin false m e)) → (t : Bool) → T (not_negative (fin t n d)) → T (le (fin false m e) (sum f false A t B C))
  unfolding sum
  sum_over i false h = round_over f false m e (A + B) C i C-pos (plus_plus M (down e) (down d) B)
  sum_over i true h = go (ltb A B) (ltb→lt A B)
    where
      never : (a b : ℕ) → b ≡ 0 → a < b → ⊥
      never a b z h = omega arith

      go : (x : Bool) → (T x → A < B) → T (le (fin false m e) (cond x (round f true (B - A) C) (round f false (A - B) C)))
      go true l = absurd (never A B (none n (up d) (down e) h) (l tt))
      go false l = round_over f false m e (A - B) C i C-pos (less_none M (down e) (down d) B (none n (up d) (down e) h))

  sum-minus : T (fits f (fin true m e)) → (t : Bool) → T (not_negative (fin t n d)) → T (le (fin true m e) (sum f true A t B C))
  unfolding sum
  sum-minus i false h = go (ltb A B) (ltb B A)
    where
      go : (x y : Bool) → T (le (fin true m e) (cond x (round f false (B - A) C) (round f (true && y) (A - B) C)))
      go true y = minus_below m e (round f false (B - A) C) (round_plain f (B - A) C)
      go false true = round_minus f m e (A - B) C i C-pos (less M (down e) (down d) B)
      go false false = minus_below m e (round f false (A - B) C) (round_plain f (A - B) C)
  sum-minus i true h = round_minus f m e (A + B) C i C-pos (plus_none M (down e) (down d) B (none n (up d) (down e) h))

pub sum_keeps : (f : Format) (x y : Float) → T (finite x) → T (fits f x) → T (not_negative y) → T (le x (add f x y))
unfolding add le
sum_keeps f nan y p i h = absurd p
sum_keeps f (inf s) y p i h = absurd p
sum_keeps f (fin s m e) nan p i h = absurd h
sum_keeps f (fin s m e) (inf true) p i h = absurd h
sum_keeps f (fin s m e) (inf false) p i h = tt
sum_keeps f (fin false m e) (fin t n d) p i h = sum_over f m e n d i t h
sum_keeps f (fin true m e) (fin t n d) p i h = sum-minus f m e n d i t h

-- ---- what is not at least a number is below it
falls : (a b : ℕ) (y : Bool) → (a ≡ b → T y) → (ltb a b || (y && true)) ≡ false → ltb b a ≡ true
falls a b y same h = is_true (ltb b a) (lt→ltb b a (lt_of_not-le (λ g. subst T h (test_of_le a b y same g))))

opposite : (a b : ℕ) → (eqb a b && (false || eqb a 0)) ≡ false → ltb 0 (b + a) ≡ true
opposite zero zero h = absurd (true≢false h)
opposite zero (suc b) h = is_true (ltb 0 (suc b + 0)) (lt→ltb 0 (suc b + 0) (omega arith))
opposite (suc a) b h = is_true (ltb 0 (b + suc a)) (lt→ltb 0 (b + suc a) (omega arith))

signed : (s : Bool) (a : ℕ) (t : Bool) (b : ℕ) → (below s a t b || level s a t b) ≡ false → below t b s a ≡ true
signed false a false b h = falls a b (eqb a b) eq→eqb h
signed false a true b h = opposite a b h
signed true a false b h = absurd (subst T h (never_over a b))
signed true a true b h = falls b a (eqb a b) (λ p. eq→eqb (sym p)) h

no_nan : (x : Float) → T (le x nan) → ⊥
unfolding le
no_nan nan h = h
no_nan (inf s) h = h
no_nan (fin s m e) h = h

-- at least some x: v is no NaN
pub under : (x y v : Float) → T (finite y) → T (le x v) → le y v ≡ false → lt v y ≡ true
unfolding le
under x nan v p g h = absurd p
under x (inf s) v p g h = absurd p
under x (fin s m e) nan p g h = absurd (no_nan x g)
under x (fin s m e) (inf true) p g h = refl
under x (fin s m e) (inf false) p g h = absurd (true≢false h)
under x (fin s m e) (fin t n d) p g h = signed s (m * up e * down d) t (n * up d * down e) h
