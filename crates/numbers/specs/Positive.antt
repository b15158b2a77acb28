-- Floats that are finite and above zero, the kit's `positive`: how code tests for them, and that
-- the order is transitive from one of them on. Assumes nothing.
use Rattle.std.specs.Prelude.{◌≡◌, ℕ, ◌*◌, ◌<◌, Bool, true, false, ◌&&◌, T, pos, nat_lt, refl, Float}
use Rattle.std.proofs.Common.{zero-le, le_of_eq, lt_of_le_of_lt, mul-pos, zero-mul, sym, ap, ◌∙◌, subst, ltb→lt, lt→ltb, pow_pos}
use Rattle.std.specs.Float.{nan, inf, fin}
use Rattle.std.specs.Float.Ieee.{up, down, lt, le, of_bits}
use Rattle.std.specs.Float.Ieee.Fits.{up_pos, and_l}
use Rattle.std.specs.Float.Ieee.Bits.{is_true}
use Rattle.std.specs.Float.Ieee.Positive.{positive, above, first_pos, above_of_le, le_trans_positive}
use Rattle.numbers.specs.Finite.{zero_f}

-- above zero and below the infinity
pub positive_is : (x : Float) → positive x ≡ (lt zero_f x && lt x (inf false))
unfolding lt of_bits
positive_is nan = refl
positive_is (inf true) = refl
positive_is (inf false) = refl
positive_is (fin true m e) = refl
positive_is (fin false m e) = both (nat_lt 0 m) (nat_lt (0 * 1 * down e) (m * up e * 1)) there back
  where
    both : (a b : Bool) → (T a → T b) → (T b → T a) → a ≡ (b && true)
    both true true f g = refl
    both true false f g = absurd (f tt)
    both false true f g = absurd (g tt)
    both false false f g = refl

    none : 0 * 1 * down e ≡ 0
    none = ap (λ (z : ℕ). z * down e) (zero-mul 1) ∙ zero-mul (down e)

    there : T (nat_lt 0 m) → T (nat_lt (0 * 1 * down e) (m * up e * 1))
    there t =
        let some : 0 < m * up e * 1 = mul-pos (mul-pos (ltb→lt 0 m t) (up_pos e)) (pow_pos 0) in
        lt→ltb (0 * 1 * down e) (m * up e * 1) (lt_of_le_of_lt (le_of_eq none) some)

    back : T (nat_lt (0 * 1 * down e) (m * up e * 1)) → T (nat_lt 0 m)
    back t =
        let some : 0 < m * up e * 1 =
        lt_of_le_of_lt zero-le (ltb→lt (0 * 1 * down e) (m * up e * 1) t) in
        lt→ltb 0 m (first_pos m (up e) (first_pos (m * up e) 1 some))

-- above zero, as code tests it
pub positive_above : (x : Float) → T (positive x) → lt zero_f x ≡ true
positive_above x p =
    is_true (lt zero_f x) (and_l (lt zero_f x) (lt x (inf false)) (subst T (positive_is x) p))

-- ---- a limit
no_infinity : (x : Float) → lt zero_f x ≡ true → lt (fin false 1 (pos 0)) x ≡ false
    → lt x (inf false) ≡ true
unfolding lt of_bits
no_infinity nan a b = a
no_infinity (inf true) a b = refl
no_infinity (inf false) a b = sym b
no_infinity (fin s m e) a b = refl

-- above 0 and not above 1, as a limit fraction is: finite
pub limit_positive : (x : Float) → lt zero_f x ≡ true → lt (fin false 1 (pos 0)) x ≡ false
    → T (positive x)
limit_positive x a b =
    let c : positive x ≡ true =
    positive_is x ∙ ap (λ (l : Bool). l && lt x (inf false)) a ∙ no_infinity x a b in
    subst T (sym c) tt

-- ---- the order
below_infinity : (x : Float) → T (positive x) → T (le x (inf false))
unfolding le
below_infinity nan p = absurd p
below_infinity (inf s) p = absurd p
below_infinity (fin s m e) p = tt

from_infinity : (x z : Float) → T (positive x) → T (le (inf false) z) → T (le x z)
unfolding le
from_infinity x nan p k = absurd k
from_infinity x (inf true) p k = absurd k
from_infinity x (inf false) p k = below_infinity x p
from_infinity x (fin s m e) p k = absurd k

from_positive : (x y z : Float) → T (positive x) → T (positive y) → T (above z)
    → T (le x y) → T (le y z) → T (le x z)
from_positive x y nan p q a h k = absurd a
from_positive x y (inf true) p q a h k = absurd a
from_positive x y (inf false) p q a h k = below_infinity x p
from_positive x y (fin true m e) p q a h k = absurd a
from_positive x y (fin false m e) p q a h k = le_trans_positive x y (fin false m e) p q a h k

-- transitive from a value above zero on, infinities included
pub le_from : (x y z : Float) → T (positive x) → T (le x y) → T (le y z) → T (le x z)
le_from x y z p h k = go y (above_of_le x y p h) h k
  where
    go : (y : Float) → T (above y) → T (le x y) → T (le y z) → T (le x z)
    go nan a h k = absurd a
    go (inf true) a h k = absurd a
    go (inf false) a h k = from_infinity x z p k
    go (fin true m e) a h k = absurd a
    go (fin false m e) a h k =
        from_positive x (fin false m e) z p a (above_of_le (fin false m e) z a k) h k
