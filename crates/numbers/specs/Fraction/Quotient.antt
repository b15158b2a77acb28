-- The quotient of two counts that a format holds exactly is the exact fraction, rounded once; so a
-- value of the format that is at most the fraction is at most the quotient. Assumes nothing.
use Rattle.std.specs.Prelude.{◌≡◌, ℕ, zero, suc, ◌*◌, ◌^◌, ◌<◌, ◌≤◌, true, false, cond, not, T, ℤ, pos, ◌==◌, Float}
use Rattle.std.proofs.Common.{le_refl, lt_irrefl, mul_assoc, mul_comm, mul_left_comm, mul-one, mul-pos, true≢false, sym, ap, ◌∙◌, subst, eqb→eq, pow_pos}
use Rattle.std.proofs.Math.Dec.{not_T}
use Rattle.std.specs.Float.{nan, inf, fin, Format}
use Rattle.std.specs.Float.Ieee.{prec, low, up, down, round, div, le, of_int, fits}
use Rattle.std.specs.Float.Ieee.Fits.{up_pos, down_pos}
use Rattle.std.specs.Float.Ieee.Bits.{cond_no}
use Rattle.std.specs.Float.Ieee.Exact.{HasValue}
use Rattle.std.specs.Float.Ieee.Back.{round_whole}
use Rattle.std.specs.Float.Ieee.Order.{round_mono, le_of_values}
use Rattle.std.specs.Float.Ieee.Scale.{round_same}
use Rattle.std.specs.Float.Ieee.Positive.{positive, first_pos}
use Rattle.numbers.specs.Positive.{le_from}
use Rattle.numbers.specs.Fraction.Units.{round_units}

-- division by what is not zero
opened : (f : Format) (m : ℕ) (e : ℤ) (n : ℕ) (d : ℤ) → T (not (n == 0))
    → div f (fin false m e) (fin false n d) ≡ round f false (m * up e * down d) (n * up d * down e)
unfolding div
opened f m e n d h =
    cond_no (n == 0) (cond (m == 0) nan (inf false))
    (round f false (m * up e * down d) (n * up d * down e)) h

-- x is p and y is t
quotient_of : (f : Format) (x y : Float) (p t : ℕ) → 0 < t → HasValue x false p 1
    → HasValue y false t 1 → div f x y ≡ round f false p t
quotient_of f nan y p t h v w = absurd v
quotient_of f (inf s) y p t h v w = absurd v
quotient_of f (fin true m e) y p t h v w = absurd (true≢false v.0)
quotient_of f (fin false m e) nan p t h v w = absurd w
quotient_of f (fin false m e) (inf s) p t h v w = absurd w
quotient_of f (fin false m e) (fin true n d) p t h v w = absurd (true≢false w.0)
quotient_of f (fin false m e) (fin false n d) p t h v w =
    opened f m e n d (not_T (n == 0) (λ k. lt_irrefl 0 (subst above_zero (eqb→eq n 0 k) some)))
    ∙ round_same f false (m * up e * down d) (n * up d * down e) p t
    (mul-pos (mul-pos some (up_pos d)) (down_pos e)) h same
  where
    above_zero : ℕ → Type 0
    above_zero z = 0 < z

    some : 0 < n
    some =
        first_pos n (up d)
        (first_pos (n * up d) 1 (subst above_zero (sym w.1) (mul-pos h (down_pos d))))

    same : m * up e * down d * t ≡ p * (n * up d * down e)
    same =
        let a : m * up e ≡ p * down e = sym (mul-one (m * up e)) ∙ v.1 in
        let b : n * up d ≡ t * down d = sym (mul-one (n * up d)) ∙ w.1 in
        ap (λ (z : ℕ). z * down d * t) a
        ∙ (simp (mul_assoc, mul_comm, mul_left_comm))
        ∙ sym (ap (λ (z : ℕ). p * (z * down e)) b)

-- the quotient of two counts is p / t, rounded
pub quotient_is : (f : Format) (p t : ℕ) → p ≤ 2 ^ prec f → t ≤ 2 ^ prec f → 0 < t
    → div f (of_int f (pos p)) (of_int f (pos t)) ≡ round f false p t
unfolding of_int
quotient_is f p t hp ht h =
    quotient_of f (round f false p 1) (round f false t 1) p t h
    (round_whole f false p hp) (round_whole f false t ht)

-- x is k units, and k / 2 ^ low is at most p / t
pub reaches : (f : Format) (x : Float) (k p t : ℕ) → T (fits f x) → T (positive x)
    → HasValue x false k (2 ^ low f) → 0 < t → k * t ≤ p * 2 ^ low f → T (le x (round f false p t))
reaches f nan k p t i h v ht g = absurd h
reaches f (inf s) k p t i h v ht g = absurd h
reaches f (fin true m e) k p t i h v ht g = absurd h
reaches f (fin false zero e) k p t i h v ht g = absurd h
reaches f (fin false (suc m) e) k p t i h v ht g =
    let x = fin false (suc m) e in
    let L = 2 ^ low f in
    let P = pow_pos (low f) in
    let y = round f false k L in
    le_from x y (round f false p t) h
    (le_of_values x y k L k L P P v (round_units f m e k i v) (le_refl (k * L)))
    (round_mono f k L p t P ht g)
