-- The digits of a number are its decimal numeral, and no other list of bytes is.
use Rattle.std.specs.Prelude.{ℕ, zero, suc, ◌+◌, ◌-◌, ◌*◌, ◌/◌, ◌%◌, ◌≤◌, ◌<◌, ◌≡◌, refl, Bool, true, false, List, [], ◌∷◌, ◌++◌, eqb, length, get_or}
use Rattle.std.proofs.Common.{sym, ap, ◌∙◌, subst, arith, length-append, eqb-true}
use Rattle.std.proofs.lemmas.Bool.{eqb-false}
use Rattle.columns.specs.Digits.{digits, one_digit, more_digits, by_tenths, read_back, read_digit, read_more}

-- bytes that are digits
unfoldable pub Digits : List ℕ → Type 0
Digits [] = Unit {0}
Digits (b ∷ bs) = (48 ≤ b) × (b ≤ 57) × Digits bs

-- a numeral: digits, one at least, of which the first is no zero unless it is the only one
pub record Numeral (bs : List ℕ) : Type 0 where
  pub some : 0 < length bs
  pub each : Digits bs
  pub first : 1 < length bs → 48 < get_or bs 0 0

-- ---- one digit more at the end

digits_more : (bs : List ℕ) (b : ℕ) → Digits bs → 48 ≤ b → b ≤ 57 → Digits (bs ++ (b ∷ []))
unfolding Digits
digits_more [] b d l u = (l, u, tt)
digits_more (c ∷ bs) b d l u = (d.0, d.1, digits_more bs b d.2 l u)

digits_less : (bs : List ℕ) (b : ℕ) → Digits (bs ++ (b ∷ [])) → Digits bs × (48 ≤ b) × (b ≤ 57)
unfolding Digits
digits_less [] b d = (tt, d.0, d.1)
digits_less (c ∷ bs) b d = let r = digits_less bs b d.2 in ((d.0, d.1, r.0), r.1, r.2)

-- every list that is not empty has a last element
last_of : (c : ℕ) (bs : List ℕ) → (front : List ℕ) × (b : ℕ) × (c ∷ bs ≡ front ++ (b ∷ [])) × (length front ≡ length bs)
last_of c [] = ([], c, refl, refl)
last_of c (d ∷ bs) =
    let r = last_of d bs in
    (c ∷ r.0, r.1, ap (λ (l : List ℕ). c ∷ l) r.2, ap suc r.3)

first_of : (bs : List ℕ) (b : ℕ) → 0 < length bs → get_or (bs ++ (b ∷ [])) 0 0 ≡ get_or bs 0 0
first_of [] b h = absurd (omega (arith, h))
first_of (c ∷ bs) b h = refl

-- ---- the digits are a numeral

each_digit : (n : ℕ) → Digits (digits n)
unfolding Digits
each_digit = by_tenths (λ (n : ℕ). Digits (digits n)) small large
  where
    small : (n : ℕ) → n < 10 → Digits (digits n)
    small n h = rw (one_digit n h) (omega arith, omega arith, tt)

    large : (n : ℕ) → 10 ≤ n → Digits (digits (n / 10)) → Digits (digits n)
    large n h d = rw (more_digits n h) (digits_more (digits (n / 10)) (48 + n % 10) d (omega arith) (omega arith))

-- there is one at least
some_digit : (n : ℕ) → 0 < length (digits n)
some_digit = by_tenths (λ (n : ℕ). 0 < length (digits n)) small large
  where
    small : (n : ℕ) → n < 10 → 0 < length (digits n)
    small n h = rw (one_digit n h) (omega arith)

    large : (n : ℕ) → 10 ≤ n → 0 < length (digits (n / 10)) → 0 < length (digits n)
    large n h e = rw (more_digits n h, length-append) (omega arith)

-- the first is no zero, but for the number 0.
no_leading_zero : (n : ℕ) → 0 < n → 48 < get_or (digits n) 0 0
no_leading_zero = by_tenths (λ (n : ℕ). 0 < n → 48 < get_or (digits n) 0 0) small large
  where
    small : (n : ℕ) → n < 10 → 0 < n → 48 < get_or (digits n) 0 0
    small n h p = rw (one_digit n h) (omega arith)

    large : (n : ℕ) → 10 ≤ n → (0 < n / 10 → 48 < get_or (digits (n / 10)) 0 0) → 0 < n → 48 < get_or (digits n) 0 0
    large n h e p = rw (more_digits n h, first_of (digits (n / 10)) (48 + n % 10) (some_digit (n / 10))) (e (omega arith))

-- THEOREM: the digits of a number are a numeral.
pub digits_numeral : (n : ℕ) → Numeral (digits n)
digits_numeral n = record { some = some_digit n; each = each_digit n; first = by_zero (eqb n 0) refl }
  where
    by_zero : (b : Bool) → eqb n 0 ≡ b → 1 < length (digits n) → 48 < get_or (digits n) 0 0
    by_zero true e h =
        let z : n ≡ 0 = eqb-true n 0 e in
        absurd (omega (arith, h, ap (λ (m : ℕ). length (digits m)) z ∙ ap length (one_digit 0 (omega arith))))
    by_zero false e h =
        let ne : (n ≡ 0 → ⊥) = eqb-false n 0 e in
        no_leading_zero n (omega (arith, ne))

-- ---- and no other list is

-- a numeral of one digit
single : (d : ℕ) → d < 10 → (48 + d) ∷ [] ≡ digits (read_back ((48 + d) ∷ []))
unfolding read_back
single d h =
    let r : read_back ((48 + d) ∷ []) ≡ d = read_digit 0 d h ∙ omega arith in
    sym (one_digit d h) ∙ ap digits (sym r)

-- a numeral and one digit more
longer : (front : List ℕ) (d : ℕ) → d < 10 → 48 < get_or front 0 0 → front ≡ digits (read_back front)
    → front ++ ((48 + d) ∷ []) ≡ digits (read_back (front ++ ((48 + d) ∷ [])))
longer front d h f e =
    let m : ℕ = read_back front in
    let N : ℕ = m * 10 + d in
    let r : read_back (front ++ ((48 + d) ∷ [])) ≡ N = read_more front (48 + d) ∙ read_digit m d h in
    let p : (m ≡ 0 → ⊥) =
    λ z. omega (arith, f, ap (λ (l : List ℕ). get_or l 0 0) (e ∙ ap digits z ∙ one_digit 0 (omega arith))) in
    let l : 10 ≤ N = omega (arith, p) in
    let t : N / 10 ≡ m = omega arith in
    let x : N % 10 ≡ d = omega arith in
    ap (λ (k : List ℕ). k ++ ((48 + d) ∷ [])) (e ∙ ap digits (sym t))
    ∙ ap (λ (k : ℕ). digits (N / 10) ++ ((48 + k) ∷ [])) (sym x)
    ∙ sym (more_digits N l)
    ∙ ap digits (sym r)

-- what the theorem says of a list
abbrev Spelt : List ℕ → Type 0
Spelt bs = bs ≡ digits (read_back bs)

-- and of all numerals of a length
abbrev All : ℕ → Type 0
All k = (bs : List ℕ) → length bs ≡ k → Numeral bs → Spelt bs

one_byte : All 1
unfolding Digits
one_byte [] h n = absurd (omega (arith, h))
one_byte (b ∷ []) h n =
    let l = n.each.0 in
    let u = n.each.1 in
    let e : 48 + (b - 48) ≡ b = omega arith in
    subst (λ (x : ℕ). Spelt (x ∷ [])) e (single (b - 48) (omega arith))
one_byte (b ∷ (c ∷ bs)) h n = absurd (omega (arith, h))

one_more : (k : ℕ) → All (suc k) → All (suc (suc k))
one_more k fewer [] h n = absurd (omega (arith, h))
one_more k fewer (c ∷ bs) h n =
    let r = last_of c bs in
    let front : List ℕ = r.0 in
    let b : ℕ = r.1 in
    let size : length front ≡ suc k = r.3 ∙ omega (arith, h) in
    let d = digits_less front b (subst Digits r.2 n.each) in
    let f : 48 < get_or front 0 0 =
    subst (λ (x : ℕ). 48 < x) (ap (λ (l : List ℕ). get_or l 0 0) r.2 ∙ first_of front b (omega arith)) (n.first (omega (arith, h))) in
    let e : 48 + (b - 48) ≡ b = omega (arith, d.1) in
    let numeral : Numeral front = record { some = omega arith; each = d.0; first = λ _. f } in
    subst Spelt (sym r.2)
    (subst (λ (x : ℕ). Spelt (front ++ (x ∷ []))) e
    (longer front (b - 48) (omega (arith, d.2)) f (fewer front size numeral)))

of_length : (k : ℕ) → All (suc k)
of_length zero = one_byte
of_length (suc k) = one_more k (of_length k)

-- THEOREM: a numeral is the digits of the number that it spells.
pub only_digits : (bs : List ℕ) → Numeral bs → bs ≡ digits (read_back bs)
only_digits bs n = of_length (length bs - 1) bs (omega (arith, n.some)) n
