-- Which floats are not below zero: what `round` gives for a plus sign, a difference x - y where x is not below y, and its
-- product with a unit. Assumes nothing.
use Rattle.std.specs.Prelude.{ℕ, zero, suc, ◌+◌, ◌-◌, ◌*◌, ◌^◌, ◌≤◌, ◌<◌, Bool, true, false, not, cond, ◌&&◌, ◌≡◌, refl, T, ltb, eqb, Float}
use Rattle.std.proofs.Common.{mul-pos, arith, true≢false, sym, ap, ◌∙◌, subst, eqb→eq, nltb→le, pow_pos}
use Rattle.std.specs.Float.{nan, inf, fin, Format}
use Rattle.std.specs.Float.Ieee.{prec, emax, low, up, down, odd, units, round, neg, sum, sub, mul, below, lt}
use Rattle.std.specs.Float.Ieee.Exact.{HasValue, round_exact}
use Rattle.std.specs.Float.Ieee.Fits.{round_is, up_pos, down_pos, eq→eqb}
use Rattle.std.specs.Float.Ieee.Order.{drop, kept}
use Rattle.std.specs.Float.Ieee.Scale.{finite}

-- a plus sign
abbrev pub plain : Float → Bool
plain nan = false
plain (inf s) = not s
plain (fin s m e) = not s

-- -0 too
abbrev pub not_negative : Float → Bool
not_negative nan = false
not_negative (inf s) = not s
not_negative (fin false m e) = true
not_negative (fin true m e) = eqb m 0

plain_is : (x : Float) → T (plain x) → T (not_negative x)
plain_is nan t = absurd t
plain_is (inf s) t = t
plain_is (fin false m e) t = tt
plain_is (fin true m e) t = absurd t

-- ---- `round` and the sign
odd_plain : (d q k l : ℕ) → T (plain (odd d false q k l))
unfolding odd
odd_plain d zero k l = tt
odd_plain d (suc q) k l = tt

units_plain : (f : Format) (q k : ℕ) → T (plain (units f false q k))
unfolding units
units_plain f q k = go (ltb (q * 2 ^ k) (2 ^ (low f + suc (emax f))))
  where
    go : (b : Bool) → T (plain (cond b (odd (suc (prec f)) false q k (low f)) (inf false)))
    go true = odd_plain (suc (prec f)) q k (low f)
    go false = tt

pub round_plain : (f : Format) (a c : ℕ) → T (plain (round f false a c))
round_plain f a c =
    rw (round_is f false a c) (units_plain f (kept (prec f) (a * 2 ^ low f) c) (drop (prec f) (a * 2 ^ low f) c))

odd_neg : (d q k l : ℕ) → odd d true q k l ≡ neg (odd d false q k l)
unfolding odd neg
odd_neg d zero k l = refl
odd_neg d (suc q) k l = refl

units_neg : (f : Format) (q k : ℕ) → units f true q k ≡ neg (units f false q k)
unfolding units neg
units_neg f q k = go (ltb (q * 2 ^ k) (2 ^ (low f + suc (emax f))))
  where
    go : (b : Bool) → cond b (odd (suc (prec f)) true q k (low f)) (inf true)
        ≡ neg (cond b (odd (suc (prec f)) false q k (low f)) (inf false))
    go true = odd_neg (suc (prec f)) q k (low f)
    go false = refl

pub round_neg : (f : Format) (a c : ℕ) → round f true a c ≡ neg (round f false a c)
round_neg f a c =
    round_is f true a c
    ∙ units_neg f (kept (prec f) (a * 2 ^ low f) c) (drop (prec f) (a * 2 ^ low f) c)
    ∙ ap neg (sym (round_is f false a c))

pub round_zero : (f : Format) (s : Bool) (c : ℕ) → 0 < c → HasValue (round f s 0 c) s 0 c
round_zero f s c C = round_exact f s 0 c 0 0 C (pow_pos (prec f)) (pow_pos (low f + suc (emax f))) (zeros (2 ^ low f) c)
  where
    zeros : (a b : ℕ) → 0 * a ≡ 0 * 1 * b
    zeros a b = omega arith

value_zero : (x : Float) (c : ℕ) → 0 < c → HasValue x true 0 c → T (not_negative x)
value_zero nan c C v = absurd v
value_zero (inf s) c C v = absurd v
value_zero (fin false m e) c C v = tt
value_zero (fin true m e) c C v = eq→eqb (none m (λ h. no (m * up e * c) (down e) v.1 (mul-pos (mul-pos h (up_pos e)) C)))
  where
    none : (m : ℕ) → (0 < m → ⊥) → m ≡ 0
    none m h = omega arith

    no : (a d : ℕ) → a ≡ 0 * d → 0 < a → ⊥
    no a d p h = omega arith

negated_zero : (f : Format) (a c : ℕ) → 0 < c → a ≡ 0 → T (not_negative (round f true a c))
negated_zero f a c C z =
    subst (λ (x : ℕ). T (not_negative (round f true x c))) (sym z) (value_zero (round f true 0 c) c C (round_zero f true c C))

-- ---- high - low, where high is not below low
difference : (f : Format) (t : Bool) (a : ℕ) (s : Bool) (b c : ℕ) → 0 < c → below t a s b ≡ false
    → T (not_negative (sum f t a (not s) b c))
unfolding sum
difference f false a false b c C h = rw h (plain_is (round f false (a - b) c) (round_plain f (a - b) c))
difference f false a true b c C h = plain_is (round f false (a + b) c) (round_plain f (a + b) c)
difference f true a false b c C h = negated_zero f (a + b) c C (none (a + b) (nltb→le 0 (a + b) (rw h tt)))
  where
    none : (n : ℕ) → n ≤ 0 → n ≡ 0
    none n h = omega arith
difference f true a true b c C h =
    go (ltb a b) (ltb b a) h (plain_is (round f false (b - a) c) (round_plain f (b - a) c))
    (plain_is (round f false (a - b) c) (round_plain f (a - b) c))
  where
    go : (x y : Bool) → y ≡ false → T (not_negative (round f false (b - a) c)) → T (not_negative (round f false (a - b) c))
        → T (not_negative (cond x (round f false (b - a) c) (round f (true && y) (a - b) c)))
    go true y h p q = p
    go false true h p q = absurd (true≢false h)
    go false false h p q = q

pub difference_is : (f : Format) (x y : Float) → T (finite x) → T (finite y) → lt x y ≡ false → T (not_negative (sub f x y))
unfolding lt sub
difference_is f nan y p q h = absurd p
difference_is f (inf s) y p q h = absurd p
difference_is f (fin s m e) nan p q h = absurd q
difference_is f (fin s m e) (inf t) p q h = absurd q
difference_is f (fin s m e) (fin t n d) p q h =
    difference f s (m * up e * down d) t (n * up d * down e) (down e * down d) (mul-pos (down_pos e) (down_pos d)) h

-- ---- times a unit
pub product_is : (f : Format) (x u : Float) (k c : ℕ) → T (finite x) → T (not_negative x) → HasValue u false k c
    → T (not_negative (mul f x u))
unfolding mul
product_is f nan u k c p h v = absurd p
product_is f (inf s) u k c p h v = absurd p
product_is f (fin s m e) nan k c p h v = absurd v
product_is f (fin s m e) (inf t) k c p h v = absurd v
product_is f (fin s m e) (fin true n d) k c p h v = absurd (true≢false v.0)
product_is f (fin false m e) (fin false n d) k c p h v =
    plain_is (round f false (m * up e * (n * up d)) (down e * down d)) (round_plain f (m * up e * (n * up d)) (down e * down d))
product_is f (fin true m e) (fin false n d) k c p h v =
    negated_zero f (m * up e * (n * up d)) (down e * down d) (mul-pos (down_pos e) (down_pos d))
    (ap (λ (z : ℕ). z * up e * (n * up d)) (eqb→eq m 0 h) ∙ zeros (up e) (n * up d))
  where
    zeros : (a b : ℕ) → 0 * a * b ≡ 0
    zeros a b = omega arith
