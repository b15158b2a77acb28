-- Targets seen before in a row: by looking back over it, and by marks. Assumes nothing.
use Prim.Native.Nat.{ℕ, zero, suc, ◌+◌, ◌-◌, ◌*◌, ◌≤◌, ◌<◌}
use native.Mathlib.Nat.{add-zero, sub-zero}
use native.Mathlib.Omega.{arith}
use mathlib.Core.Path.{◌≡◌, refl, sym, ap, ◌∙◌}
use mathlib.Core.List.{List, []}
use mathlib.Core.Bool.{Bool, true, false, ◌||◌, or-true, or-false}
use mathlib.Core.Logic.{◌⊎◌, inl, inr}
use lib.Dec.{ltb, eqb}
use lib.ListN.{length, get_or, take, drop}
use Rattle.std.proofs.Math.Bool.{or_assoc}
use Rattle.std.proofs.Common.{drop-cons, add-one}
use Rattle.std.specs.List.{concat, list_any}
use borrow.Author.Tests.{ltb-true, eqb-true, eqb-false}
use Rattle.machine.specs.Constants.{state_end, state_signal}
use Rattle.machine.specs.State.{target_at}
use Rattle.rows.specs.Row.{is_target, seen_in, seen_before}
use Rattle.rows.specs.Marks.{mark_of, is_marked, marked, Met}
use Rattle.rows.proofs.Bits.{mark_same, mark_other}
use Rattle.rows.proofs.Chunks.{Whole}
use Rattle.rows.proofs.Rows.{target_is}

-- ---- looking back over the rows of two words each
abbrev pub has : ℕ → List ℕ → Bool
has target row = eqb (get_or row 0 0) target

looked : (rows : List (List ℕ)) (target : ℕ) → Whole 2 rows → (k j : ℕ) → j + k ≤ length rows
    → list_any (has target) (take k (drop j rows)) ≡ seen_in (concat rows) target k j
unfolding seen_in
looked rows target whole zero j h = refl
looked rows target whole (suc k) j h =
    let here : j < length rows = omega arith in
    rw (drop-cons rows j [], sym (add-one j), looked rows target whole k (j + 1) (omega arith), target_is rows 0 j whole here)

pub looked_back : (rows : List (List ℕ)) (i : ℕ) → Whole 2 rows → i < length rows → (seen : Bool)
    → seen ≡ list_any (has (get_or (get_or rows i []) 0 0)) (take i rows) → seen ≡ seen_before (concat rows) 0 i
looked_back rows i whole h seen is =
    is ∙ looked rows (get_or (get_or rows i []) 0 0) whole i 0 (omega arith) ∙ rw (target_is rows 0 i whole h, sub-zero i)

seen_end : (ts : List ℕ) (target e j : ℕ) → e ≤ j → seen_in ts target (e - j) j ≡ false
unfolding seen_in
seen_end ts target e j h = let none : e - j ≡ zero = omega arith in rw none

-- ---- one transition more
last : (ts : List ℕ) (target k j : ℕ) → seen_in ts target (suc k) j ≡ (seen_in ts target k j || eqb (target_at ts (j + k)) target)
unfolding seen_in
last ts target zero j = rw (add-zero j) (or-false (eqb (target_at ts j) target))
last ts target (suc k) j =
    let s : j + suc k ≡ j + 1 + k = omega arith in
    let here = eqb (target_at ts j) target in
    let end = eqb (target_at ts (j + suc k)) target in
    let more : seen_in ts target (suc k) (j + 1) ≡ (seen_in ts target k (j + 1) || end) = rw s (last ts target k (j + 1)) in
    ap (λ (b : Bool). here || b) more ∙ sym (or_assoc here (seen_in ts target k (j + 1)) end)

seen_last : (ts : List ℕ) (target first i : ℕ) → first ≤ i →
    seen_in ts target (i + 1 - first) first ≡ (seen_in ts target (i - first) first || eqb (target_at ts i) target)
seen_last ts target first i h =
    let one : i + 1 - first ≡ suc (i - first) = omega arith in
    let two : first + (i - first) ≡ i = omega arith in
    rw (one, last ts target (i - first) first, two)

-- ---- each target has its own mark
abbrev Place : ℕ → ℕ → Type 0
Place n a = ((a < n) × (mark_of n a ≡ a)) ⊎ (((a ≡ state_end) × (mark_of n a ≡ n)) ⊎ ((a ≡ state_signal) × (mark_of n a ≡ n + 1)))

place : (n a : ℕ) → is_target n a ≡ true → Place n a
unfolding is_target mark_of
place n a t = below (ltb a n) refl
  where
    below : (b : Bool) → ltb a n ≡ b → Place n a
    below true p = inl (ltb-true a n p, rw p)
    below false p = special (eqb a state_end) refl
      where
        special : (b : Bool) → eqb a state_end ≡ b → Place n a
        special true q = inr (inl (eqb-true a state_end q, rw (p, q)))
        special false q = inr (inr (eqb-true a state_signal (rw (p, q) at t), rw (p, q)))

one_mark : (n a b : ℕ) → is_target n a ≡ true → is_target n b ≡ true → mark_of n a ≡ mark_of n b → a ≡ b
one_mark n a b s t e = both (place n a s) (place n b t)
  where
    both : Place n a → Place n b → a ≡ b
    both (inl (p, q)) (inl (r, u)) = omega arith
    both (inl (p, q)) (inr (inl (r, u))) = omega arith
    both (inl (p, q)) (inr (inr (r, u))) = omega arith
    both (inr (inl (p, q))) (inl (r, u)) = omega arith
    both (inr (inl (p, q))) (inr (inl (r, u))) = omega arith
    both (inr (inl (p, q))) (inr (inr (r, u))) = omega arith
    both (inr (inr (p, q))) (inl (r, u)) = omega arith
    both (inr (inr (p, q))) (inr (inl (r, u))) = omega arith
    both (inr (inr (p, q))) (inr (inr (r, u))) = omega arith

-- ---- the marks of a row
pub met_none : (marks ts : List ℕ) (n : ℕ) → ((m : ℕ) → is_marked marks m ≡ false) → Met marks ts n 0 0
met_none marks ts n clear target t =
    clear (mark_of n target) ∙ sym (seen_end ts target 0 0 (let h : 0 ≤ 0 = omega arith in h))

pub met_on : (marks ts : List ℕ) (n i : ℕ) → Met marks ts n 0 i → mark_of n (target_at ts i) < length marks * 64
    → is_target n (target_at ts i) ≡ true → Met (marked marks (mark_of n (target_at ts i))) ts n 0 (i + 1)
met_on marks ts n i met fits here target t =
    same (eqb (target_at ts i) target) refl ∙ sym (seen_last ts target 0 i (let h : 0 ≤ i = omega arith in h))
  where
    same : (b : Bool) → eqb (target_at ts i) target ≡ b →
        is_marked (marked marks (mark_of n (target_at ts i))) (mark_of n target) ≡ (seen_in ts target (i - 0) 0 || eqb (target_at ts i) target)
    same true p =
        rw (p, ← eqb-true (target_at ts i) target p)
        (mark_same marks (mark_of n (target_at ts i)) fits ∙ sym (or-true (seen_in ts (target_at ts i) (i - 0) 0)))
    same false p =
        rw p
        (mark_other marks (mark_of n (target_at ts i)) fits (mark_of n target)
        (λ q. eqb-false (target_at ts i) target p (sym (one_mark n target (target_at ts i) t here q)))
        ∙ met target t ∙ sym (or-false (seen_in ts target (i - 0) 0)))

-- transition i is met: its mark m was read, and then set
pub meets : (rows : List (List ℕ)) (n i : ℕ) (marks more : List ℕ) (m : ℕ) (met : Bool) → Whole 2 rows → i < length rows
    → Met marks (concat rows) n 0 i → m ≡ mark_of n (get_or (get_or rows i []) 0 0) → m < length marks * 64
    → met ≡ is_marked marks m → more ≡ marked marks m → is_target n (target_at (concat rows) i) ≡ true
    → (met ≡ seen_before (concat rows) 0 i) × Met more (concat rows) n 0 (i + 1)
meets rows n i marks more m met whole h kept is fits read set here =
    let same : m ≡ mark_of n (target_at (concat rows) i) = is ∙ ap (mark_of n) (target_is rows n i whole h) in
    let room : mark_of n (target_at (concat rows) i) < length marks * 64 = rw (← same) fits in
    (read ∙ rw same (kept _ here), rw (set, same) (met_on marks (concat rows) n i kept room here))
