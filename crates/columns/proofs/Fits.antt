-- What fits its columns, what reads back from them, and their length.
use Rattle.std.specs.Prelude.{ℕ, zero, suc, ◌-◌, ◌*◌, ◌/◌, ◌^◌, ◌≤◌, ◌<◌, ◌≡◌, refl, Bool, true, false, List, [], ◌∷◌, ◌++◌, leb, length, drop, replicate}
use Rattle.std.proofs.Common.{ap, ◌∙◌, arith, pow-suc, length-append, length-drop, le-leb, leb-true, leb-false}
use Rattle.std.proofs.Math.Nat.{pow-zero}
use Rattle.std.proofs.lemmas.List.{length-replicate}
use Rattle.columns.specs.Digits.{digits, one_digit, more_digits, read_back}
use Rattle.columns.proofs.Digits.{read_digits}
use Rattle.columns.specs.Columns.{fits, last_digits, right, rights}

-- ---- how many digits

-- THEOREM: a number below 10 ^ w has at most w digits, and so fits w columns, where there is one at least.
few_digits : (w n : ℕ) → n < 10 ^ suc w → length (digits n) ≤ suc w
few_digits zero n h = rw (one_digit n (omega (arith, pow-suc 10 0, pow-zero 10))) (omega arith)
few_digits (suc w) n h = by_size (leb 10 n) refl (few_digits w (n / 10) (omega (arith, pow-suc 10 (suc w))))
  where
    by_size : (b : Bool) → leb 10 n ≡ b → length (digits (n / 10)) ≤ suc w → length (digits n) ≤ suc (suc w)
    by_size true e fewer = rw (more_digits n (leb-true 10 n e), length-append) (omega arith)
    by_size false e fewer = rw (one_digit n (leb-false 10 n e)) (omega arith)

pub below_fits : (w n : ℕ) → 0 < w → n < 10 ^ w → fits w n ≡ true
unfolding fits
below_fits zero n p h = absurd (omega (arith, p))
below_fits (suc w) n p h = le-leb (length (digits n)) (suc w) (few_digits w n h)

-- ---- the columns

-- THEOREM: a number that fits fills its columns with spaces and then its digits.
pub right_fits : (w n : ℕ) → fits w n ≡ true → right w n ≡ replicate (w - length (digits n)) 32 ++ digits n
unfolding right
right_fits w n h = rw h

-- all digits are the last ones of a number that fits
last_all : (w n : ℕ) → length (digits n) ≤ w → last_digits w n ≡ digits n
unfolding last_digits
last_all w n h =
    let z : length (digits n) - w ≡ 0 = omega arith in
    ap (λ (k : ℕ). drop k (digits n)) z

-- so the columns are spaces and the last digits, whether it fits or not
pub right_is : (w n : ℕ) → right w n ≡ replicate (w - length (digits n)) 32 ++ last_digits w n
unfolding right fits
right_is w n = by-fit (leb (length (digits n)) w) refl
  where
    by-fit : (b : Bool) → leb (length (digits n)) w ≡ b
        → right w n ≡ replicate (w - length (digits n)) 32 ++ last_digits w n
    by-fit true e = rw (e, last_all w n (leb-true (length (digits n)) w e))
    by-fit false e =
        let l = leb-false (length (digits n)) w e in
        let z : w - length (digits n) ≡ 0 = omega arith in
        rw (e, z)

pub length_last : (w n : ℕ) → length (last_digits w n) ≡ length (digits n) - (length (digits n) - w)
unfolding last_digits
length_last w n = length-drop (length (digits n) - w) (digits n)

pub length-right : (w n : ℕ) → length (right w n) ≡ w
length-right w n =
    ap length (right_is w n)
    ∙ length-append (replicate (w - length (digits n)) 32) (last_digits w n)
    ∙ rw (length-replicate, length_last) (omega arith)

pub length-rights : (w : ℕ) (ns : List ℕ) → length (rights w ns) ≡ w * length ns
unfolding rights
length-rights w [] = omega arith
length-rights w (n ∷ ns) = length-append (right w n) (rights w ns) ∙ omega (arith, length-right w n, length-rights w ns)

-- ---- reading back

read_spaces : (k : ℕ) (bs : List ℕ) → read_back (replicate k 32 ++ bs) ≡ read_back bs
unfolding read_back
read_spaces zero bs = refl
read_spaces (suc k) bs = read_spaces k bs

-- THEOREM: a number that fits its columns reads back as itself.
pub reads_back : (w n : ℕ) → fits w n ≡ true → read_back (right w n) ≡ n
reads_back w n h =
    ap read_back (right_fits w n h) ∙ read_spaces (w - length (digits n)) (digits n) ∙ read_digits n
