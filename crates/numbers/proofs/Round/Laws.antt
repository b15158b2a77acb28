-- Rounding gives the nearest whole number, and a whole cap may come before it or after it. Assumes
-- nothing.
use Rattle.std.specs.Prelude.{◌≡◌, ℕ, ◌+◌, ◌-◌, ◌*◌, ◌/◌, ◌^◌, ◌<◌, ◌≤◌, min, Bool, true, false, cond, ℤ, refl, Float}
use Rattle.std.proofs.Common.{zero-le, div-lt_iff_lt-mul, div-mul-le_self, le-div_iff_mul-le, le_of_mul-le-mul_right, lt_of_mul-lt-mul_right, le_antisymm, le_of_eq, le_of_lt, le_trans, lt_of_le_of_lt, add-mul, mul_left_comm, mul-one, mul_right_comm, arith, true≢false, sym, ap, ◌∙◌, subst, ltb-true, ltb-false}
use Rattle.std.proofs.Math.Nat.{lt-div-mul-add}
use Rattle.std.proofs.lemmas.Bool.{false≢true}
use Rattle.std.specs.Float.{nan, inf, fin}
use Rattle.std.specs.Float.Ieee.{up, down, lt}
use Rattle.std.specs.Float.Ieee.Fits.{down_pos}
use Rattle.std.specs.Float.Ieee.Exact.{HasValue}
use Rattle.numbers.specs.Round.{round_away}

-- ---- the nearest whole number

-- r - 1/2 ≤ a / b < r + 1/2: no whole number is nearer, and a half goes up
abbrev pub Nearest : ℕ → ℕ → ℕ → Type 0
Nearest r a b = (2 * (r * b) ≤ 2 * a + b) × (2 * a < 2 * (r * b) + b)

double_pos : (b : ℕ) → 0 < b → 0 < 2 * b
double_pos b h = omega arith

nearest_of : (a b : ℕ) → 0 < b → Nearest ((2 * a + b) / (2 * b)) a b
nearest_of a b B =
    let q = (2 * a + b) / (2 * b) in
    let swap = mul_left_comm q 2 b in
    let least = div-mul-le_self (2 * a + b) (2 * b) in
    let most : 2 * a + b < q * (2 * b) + 2 * b = lt-div-mul-add (double_pos b B) in
    (omega (arith, swap, least), omega (arith, swap, most))

-- below the cap
pub round_nearest : (m : ℕ) (e : ℤ) → round_away (fin false m e) < 2 ^ 64 - 1
    → Nearest (round_away (fin false m e)) (m * up e) (down e)
unfolding round_away
round_nearest m e h =
    let a = m * up e in
    let b = down e in
    let q = (2 * a + b) / (2 * b) in
    subst (λ (r : ℕ). Nearest r a b) (sym (uncapped q (2 ^ 64 - 1) h)) (nearest_of a b (down_pos e))
  where
    uncapped : (q c : ℕ) → min q c < c → min q c ≡ q
    uncapped q c h = omega arith

-- ---- a whole cap
whole_least : (a b c : ℕ) → 0 < b → c * b ≤ a → c ≤ (2 * a + b) / (2 * b)
whole_least a b c B h =
    let swap = mul_left_comm c 2 b in
    (le-div_iff_mul-le (double_pos b B)).1 (omega (arith, swap, h))

whole_most : (a b c : ℕ) → 0 < b → a ≤ c * b → (2 * a + b) / (2 * b) ≤ c
whole_most a b c B h =
    let swap = mul_left_comm c 2 b in
    let over = add-mul c 1 (2 * b) in
    let q : (2 * a + b) / (2 * b) < c + 1 =
    (div-lt_iff_lt-mul (double_pos b B)).1 (omega (arith, swap, over, h, B)) in
    omega (arith, q)

capped : (c : ℕ) → c ≤ 2 ^ 64 - 1 → min c (2 ^ 64 - 1) ≡ c
capped c h = omega arith

-- a whole number that u64 holds is rounded to itself
pub round_of_whole : (y : Float) (c : ℕ) → HasValue y false c 1 → c ≤ 2 ^ 64 - 1 → round_away y ≡ c
unfolding round_away
round_of_whole nan c v h = absurd v
round_of_whole (inf s) c v h = absurd v
round_of_whole (fin true m e) c v h = absurd (true≢false v.0)
round_of_whole (fin false m e) c v h =
    let a = m * up e in
    let b = down e in
    let B = down_pos e in
    let is : a ≡ c * b = sym (mul-one a) ∙ v.1 in
    let same =
    le_antisymm (whole_most a b c B (le_of_eq is)) (whole_least a b c B (le_of_eq (sym is))) in
    ap (λ (z : ℕ). min z (2 ^ 64 - 1)) same ∙ capped c h

-- n / d is c
scaled : (n d c b : ℕ) → n * 1 ≡ c * d → n * b ≡ c * b * d
scaled n d c b v = ap (λ (z : ℕ). z * b) (sym (mul-one n) ∙ v) ∙ mul_right_comm c d b

above_cap : (x y : Float) (c : ℕ) → HasValue y false c 1 → c ≤ 2 ^ 64 - 1 → lt y x ≡ true
    → c ≤ round_away x
unfolding round_away lt
above_cap x nan c v h t = absurd v
above_cap x (inf s) c v h t = absurd v
above_cap x (fin true n d) c v h t = absurd (true≢false v.0)
above_cap nan (fin false n d) c v h t = absurd (false≢true t)
above_cap (inf true) (fin false n d) c v h t = absurd (false≢true t)
above_cap (inf false) (fin false n d) c v h t = h
above_cap (fin true m e) (fin false n d) c v h t = absurd (false≢true t)
above_cap (fin false m e) (fin false n d) c v h t =
    let a = m * up e in
    let b = down e in
    let less = ltb-true (n * up d * b) (a * down d) t in
    let same = scaled (n * up d) (down d) c b v.1 in
    let most : c * b < a =
    lt_of_mul-lt-mul_right (down d) (lt_of_le_of_lt (le_of_eq (sym same)) less) in
    both ((2 * a + b) / (2 * b)) (whole_least a b c (down_pos e) (le_of_lt most))
  where
    both : (q : ℕ) → c ≤ q → c ≤ min q (2 ^ 64 - 1)
    both q k = omega (arith, h, k)

below_cap : (x y : Float) (c : ℕ) → HasValue y false c 1 → lt y x ≡ false → round_away x ≤ c
unfolding round_away lt
below_cap x nan c v t = absurd v
below_cap x (inf s) c v t = absurd v
below_cap x (fin true n d) c v t = absurd (true≢false v.0)
below_cap nan (fin false n d) c v t = zero-le
below_cap (inf true) (fin false n d) c v t = zero-le
below_cap (inf false) (fin false n d) c v t = absurd (true≢false t)
below_cap (fin true m e) (fin false n d) c v t = zero-le
below_cap (fin false m e) (fin false n d) c v t =
    let a = m * up e in
    let b = down e in
    let least = ltb-false (n * up d * b) (a * down d) t in
    let same = scaled (n * up d) (down d) c b v.1 in
    let most : a ≤ c * b = le_of_mul-le-mul_right (le_trans least (le_of_eq same)) (down_pos d) in
    first ((2 * a + b) / (2 * b)) (whole_most a b c (down_pos e) most)
  where
    first : (q : ℕ) → q ≤ c → min q (2 ^ 64 - 1) ≤ c
    first q k = omega (arith, k)

-- a cap y that is the whole number c: put on before rounding, or c on the rounded number
pub cap_then_round : (x y : Float) (c : ℕ) → HasValue y false c 1 → c ≤ 2 ^ 64 - 1
    → round_away (cond (lt y x) y x) ≡ min (round_away x) c
cap_then_round x y c v h = go (lt y x) refl
  where
    second : (r : ℕ) → c ≤ r → c ≡ min r c
    second r k = omega arith

    first : (r : ℕ) → r ≤ c → r ≡ min r c
    first r k = omega arith

    go : (b : Bool) → lt y x ≡ b → round_away (cond b y x) ≡ min (round_away x) c
    go true t = round_of_whole y c v h ∙ second (round_away x) (above_cap x y c v h t)
    go false t = first (round_away x) (below_cap x y c v t)
