-- A float that fits a format is a whole number of the format's smallest values, and `round` keeps
-- it. Assumes nothing.
use Rattle.std.specs.Prelude.{◌≡◌, ℕ, zero, suc, ◌+◌, ◌-◌, ◌*◌, ◌%◌, ◌^◌, ◌<◌, ◌≤◌, Bool, false, ◌&&◌, T, ℤ, pos, negsuc, nat_eq, nat_le, nat_lt, refl}
use Rattle.std.proofs.Common.{le_of_eq, lt_of_le_of_lt, lt_of_lt_of_le, lt_of_not-le, not-le_of_lt, mul_assoc, mul_comm, mul-one, mul_right_comm, one-mul, lt_of_mul-lt-mul_right, mul-lt-mul_of_pos_right, arith, sym, ap, ◌∙◌, leb→le, ltb→lt, pow-add, pow_pos}
use Rattle.std.proofs.Math.Nat.{eq_of_mul-eq-mul_right}
use Rattle.std.proofs.Math.Decide.{dec_le}
use Rattle.std.proofs.Math.Pow.{pow-lt}
use Rattle.std.specs.Float.{fin, Format}
use Rattle.std.specs.Float.Ieee.{prec, emax, low, up, down, round, fits}
use Rattle.std.specs.Float.Ieee.Fits.{and_l, and_r, down_pos}
use Rattle.std.specs.Float.Ieee.Exact.{HasValue, round_exact}

-- ---- what `fits` says of a value that is not zero
abbrev pub Parts : Format → ℕ → ℤ → Type 0
Parts f m e =
    (m < 2 ^ prec f) × (down e ≤ 2 ^ low f) × (m * up e < 2 ^ suc (emax f) * down e)

pub fits_parts : (f : Format) (s : Bool) (m : ℕ) (e : ℤ) → T (fits f (fin s (suc m) e))
    → Parts f (suc m) e
unfolding fits
fits_parts f s m e t =
    let a = nat_eq (suc m % 2) 1 in
    let b = nat_lt (suc m) (2 ^ prec f) in
    let c = nat_le (down e) (2 ^ low f) in
    let d = nat_lt (suc m * up e) (2 ^ suc (emax f) * down e) in
    let abc : T (a && b && c) = and_l (a && b && c) d t in (
      ltb→lt (suc m) (2 ^ prec f) (and_r a b (and_l (a && b) c abc)),
      leb→le (down e) (2 ^ low f) (and_r (a && b) c abc),
      ltb→lt (suc m * up e) (2 ^ suc (emax f) * down e) (and_r (a && b && c) d t),
    )

-- ---- 2 ^ e is 2 ^ j units, for an exponent that the format has
pow_le_back : (a b : ℕ) → 2 ^ a ≤ 2 ^ b → a ≤ b
pow_le_back a b h =
    elim (dec_le a b) [ yes k ↦ k | no k ↦ absurd (not-le_of_lt (pow-lt (lt_of_not-le k)) h) ]

shift : (e : ℤ) (l : ℕ) → down e ≤ 2 ^ l → (j : ℕ) × (up e * 2 ^ l ≡ 2 ^ j * down e)
shift (pos k) l h = (k + l, sym (pow-add 2 k l) ∙ sym (mul-one (2 ^ (k + l))))
shift (negsuc k) l h =
    let b : l - suc k + suc k ≡ l = back (pow_le_back (suc k) l h) in (
      l - suc k,
      one-mul (2 ^ l) ∙ ap (λ (x : ℕ). 2 ^ x) (sym b) ∙ pow-add 2 (l - suc k) (suc k),
    )
  where
    back : {a b : ℕ} → a ≤ b → b - a + a ≡ b
    back h = omega arith

-- ---- a value that fits is m * 2 ^ j units
pub whole_units : (f : Format) (m : ℕ) (e : ℤ) → T (fits f (fin false m e))
    → (j : ℕ) × HasValue (fin false m e) false (m * 2 ^ j) (2 ^ low f)
whole_units f zero e t = (0, (refl, zeros (up e) (2 ^ low f) (2 ^ 0) (down e)))
  where
    zeros : (a b c d : ℕ) → 0 * a * b ≡ 0 * c * d
    zeros a b c d = omega arith
whole_units f (suc m) e t =
    let s = shift e (low f) (fits_parts f false m e t).1 in
    let same : suc m * up e * 2 ^ low f ≡ suc m * 2 ^ s.0 * down e =
    mul_assoc (suc m) (up e) (2 ^ low f)
    ∙ ap (λ (x : ℕ). suc m * x) s.1
    ∙ sym (mul_assoc (suc m) (2 ^ s.0) (down e)) in
    (s.0, (refl, same))

-- k units are k' units only if k is k'
same_units : (m : ℕ) (e : ℤ) (k k' c : ℕ) → HasValue (fin false m e) false k c
    → HasValue (fin false m e) false k' c → k ≡ k'
same_units m e k k' c v w = eq_of_mul-eq-mul_right (down e) (down_pos e) k k' (sym v.1 ∙ w.1)

-- rounding changes no value that fits
pub round_units : (f : Format) (m : ℕ) (e : ℤ) (k : ℕ) → T (fits f (fin false (suc m) e))
    → HasValue (fin false (suc m) e) false k (2 ^ low f)
    → HasValue (round f false k (2 ^ low f)) false k (2 ^ low f)
round_units f m e k t v =
    let u = whole_units f (suc m) e t in
    let same = same_units (suc m) e k (suc m * 2 ^ u.0) (2 ^ low f) v u.1 in
    let p = fits_parts f false m e t in
    round_exact f false k (2 ^ low f) (suc m) u.0 (pow_pos (low f)) p.0
    (bound (suc m * 2 ^ u.0) (suc m * up e) u.1.1 p.2)
    (ap (λ (z : ℕ). z * 2 ^ low f) same)
  where
    bound : (k n : ℕ) → n * 2 ^ low f ≡ k * down e → n < 2 ^ suc (emax f) * down e
        → k < 2 ^ (low f + suc (emax f))
    bound k n h l =
        let L = 2 ^ low f in
        let E = 2 ^ suc (emax f) in
        let wide : E * down e * L ≡ 2 ^ (low f + suc (emax f)) * down e =
        mul_right_comm E (down e) L
        ∙ ap (λ (z : ℕ). z * down e) (mul_comm E L ∙ sym (pow-add 2 (low f) (suc (emax f)))) in
        lt_of_mul-lt-mul_right (down e)
        (lt_of_le_of_lt (le_of_eq (sym h))
        (lt_of_lt_of_le (mul-lt-mul_of_pos_right l (pow_pos (low f))) (le_of_eq wide)))
