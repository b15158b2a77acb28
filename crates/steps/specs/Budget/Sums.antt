-- Sums over machines, and the arithmetic of the budgets with all that is fixed as variables: U stands
-- for 2 ^ 1074. Assumes nothing.
use Rattle.std.specs.Prelude.{ℕ, zero, suc, ◌+◌, ◌*◌, ◌-◌, ◌≤◌, ◌<◌, Bool, true, false, cond, ◌⊎◌, ◌≡◌, refl, eqb}
use Rattle.std.proofs.Common.{le_trans, le_of_eq, le_refl, mul-le-mul_right, mul-le-mul, add-mul, eq-or-lt_of_le, arith, inl, inr, ap, ◌∙◌, subst, eq-eqb, ne_eqb}
use Rattle.steps.specs.Budget.{plus, sum}

-- ---- sums
pub sum_mono : (m : ℕ) (f h : ℕ → ℕ) → ((i : ℕ) → i < m → f i ≤ h i) → sum m f ≤ sum m h
sum_mono zero f h k = omega arith
sum_mono (suc m) f h k =
    let a = sum_mono m f h (λ i l. k i (omega arith)) in
    let b : f m ≤ h m = k m (omega arith) in
    omega arith

pub sum-shift : (m : ℕ) (q h : ℕ → ℕ) → sum m (λ i. q i + h i + 2) ≡ sum m q + sum m h + 2 * m
sum-shift zero q h = refl
sum-shift (suc m) q h = let a = sum-shift m q h in omega arith

pub sum-none : (m : ℕ) → sum m (λ i. 0) ≡ 0
sum-none zero = refl
sum-none (suc m) = let a = sum-none m in omega arith

pub one_of_sum : (m : ℕ) (f : ℕ → ℕ) (i : ℕ) → i < m → f i ≤ sum m f
one_of_sum zero f i l = omega arith
one_of_sum (suc m) f i l = elim (eq-or-lt_of_le l) [
  | inl e ↦ let z : f i ≡ f m = ap f (omega arith) in omega arith
  | inr k ↦ let z = one_of_sum m f i (omega arith) in omega arith
]

-- ---- one more at one machine
pub plus_same : (own : ℕ → ℕ) (i : ℕ) → plus own i i ≡ suc (own i)
plus_same own i = rw (eq-eqb i i refl)

pub plus_other : (own : ℕ → ℕ) (i j : ℕ) → (i ≡ j → ⊥) → plus own i j ≡ own j
plus_other own i j n = rw (ne_eqb i j n)

pub plus_grows : (own : ℕ → ℕ) (k i : ℕ) → own i ≤ plus own k i
plus_grows own k i = go (eqb k i)
  where
    go : (b : Bool) → own i ≤ cond b (suc (own i)) (own i)
    go true = omega arith
    go false = omega arith

sum-plus-out : (m : ℕ) (own : ℕ → ℕ) (i : ℕ) → m ≤ i → sum m (plus own i) ≡ sum m own
sum-plus-out zero own i h = refl
sum-plus-out (suc m) own i h =
    let a = sum-plus-out m own i (omega arith) in
    let b = plus_other own i m (λ e. omega arith) in
    omega arith

pub sum-plus : (m : ℕ) (own : ℕ → ℕ) (i : ℕ) → i < m → sum m (plus own i) ≡ suc (sum m own)
sum-plus zero own i h = omega arith
sum-plus (suc m) own i h = elim (eq-or-lt_of_le h) [
  | inl e ↦
      let k : i ≡ m = omega arith in
      let a = sum-plus-out m own i (omega arith) in
      let b : plus own i m ≡ suc (own m) =
      subst (λ (j : ℕ). plus own i j ≡ suc (own j)) k (plus_same own i) in
      omega arith
  | inr k ↦
      let a = sum-plus m own i (omega arith) in
      let b = plus_other own i m (λ e. omega arith) in
      omega arith
]

-- ---- x of a machine is within its budget: allowance A, fraction g in U-ths, total t
abbrev pub Below : (A U g t x : ℕ) → Type 0
Below A U g t x = (x ≤ A + 2) ⊎ (x * U < g * t + 2 * U)

-- a larger total, and a smaller count
pub below_more : (A U g t t' x : ℕ) → t ≤ t' → Below A U g t x → Below A U g t' x
below_more A U g t t' x h (inl k) = inl k
below_more A U g t t' x h (inr k) =
    let m : g * t ≤ g * t' = mul-le-mul (le_refl g) h in inr (omega arith)

pub below_less : (A U g t x y : ℕ) → x ≤ y → Below A U g t y → Below A U g t x
below_less A U g t x y h (inl k) = inl (le_trans h k)
below_less A U g t x y h (inr k) = let m : x * U ≤ y * U = mul-le-mul_right U h in inr (omega arith)

-- a passed check: the machine has sent p, and with what it holds and is about to get x is at most p + 2
pub below_pass : (A U g p n x : ℕ) → x ≤ p + 2 → (p < A) ⊎ ((p + n ≡ 0) ⊎ (p * U < g * (p + n)))
    → Below A U g (p + n) x
below_pass A U g p n x h (inl k) = inl (omega arith)
below_pass A U g p n x h (inr (inl k)) = inl (omega arith)
below_pass A U g p n x h (inr (inr k)) =
    let m : x * U ≤ p * U + 2 * U = le_trans (mul-le-mul_right U h) (le_of_eq (add-mul p 2 U)) in
    inr (omega arith)

-- as demand 3 has it, with a for A + 2 and b for 2
pub below_budget : (A U g t x a b : ℕ) → A + 2 ≤ a → 2 ≤ b → Below A U g t x
    → (x ≤ a) ⊎ ((x - b) * U < g * t)
below_budget A U g t x a b h k (inl m) = inl (le_trans m h)
below_budget A U g t zero a b h k (inr m) = inl (omega arith)
below_budget A U g t (suc zero) a b h k (inr m) = inl (omega arith)
below_budget A U g t (suc (suc x)) a b h k (inr m) =
    let e : suc (suc x) * U ≡ x * U + 2 * U = ap (λ (z : ℕ). z * U) (two x) ∙ add-mul x 2 U in
    let l : (suc (suc x) - b) * U ≤ x * U = mul-le-mul_right U (less x) in
    inr (omega arith)
  where
    two : (x : ℕ) → suc (suc x) ≡ x + 2
    two x = omega arith

    less : (x : ℕ) → suc (suc x) - b ≤ x
    less x = omega arith
