-- The columns of a number one by one: what code that goes from column to column says of them.
use Rattle.std.specs.Prelude.{ℕ, zero, suc, ◌+◌, ◌-◌, ◌*◌, ◌/◌, ◌%◌, ◌^◌, ◌≤◌, ◌<◌, ◌≡◌, refl, Bool, true, false, cond, List, [], ◌∷◌, ◌++◌, eqb, ltb, length, replicate}
use Rattle.std.proofs.Common.{sym, ap, ◌∙◌, append_assoc, arith, add-one, pow-suc, length-append, ne_eqb, eqb-true, ltb-true, ltb-false}
use Rattle.std.proofs.Math.Nat.{pow-zero}
use Rattle.std.proofs.lemmas.List.{replicate-append-replicate, drop-append-le}
use Rattle.std.proofs.Math.Seq.{drop-length}
use Rattle.columns.specs.Digits.{digits, one_digit, more_digits, read_back, read_digit, read_more}
use Rattle.columns.specs.Columns.{last_digits, right}
use Rattle.columns.proofs.Fits.{right_is}

-- ---- the last digits

-- how many digits a number has, with one more
pub one_more : (n : ℕ) → 10 ≤ n → length (digits n) ≡ suc (length (digits (n / 10)))
one_more n h = ap length (more_digits n h) ∙ length-append (digits (n / 10)) ((48 + n % 10) ∷ []) ∙ omega arith

pub last_none : (n : ℕ) → last_digits 0 n ≡ []
unfolding last_digits
last_none n =
    let k : length (digits n) - 0 ≡ length (digits n) = omega arith in
    rw k (drop-length (digits n))

pub last_one : (w n : ℕ) → n < 10 → last_digits (suc w) n ≡ (48 + n) ∷ []
unfolding last_digits
last_one w n h =
    let k : 1 - suc w ≡ 0 = omega arith in
    rw (one_digit n h, k)

pub last_more : (w n : ℕ) → 10 ≤ n → last_digits (suc w) n ≡ last_digits w (n / 10) ++ ((48 + n % 10) ∷ [])
unfolding last_digits
last_more w n h =
    let D : List ℕ = digits (n / 10) in
    let k : length (digits n) - suc w ≡ length D - w = omega (arith, one_more n h) in
    rw (k, more_digits n h) (drop-append-le (length D - w) D ((48 + n % 10) ∷ []) (omega arith))

-- ---- the columns, the last apart

-- the byte of a column left of the last, where rest is the part of the number up to it: a space where that is 0
abbrev pub mark : ℕ → ℕ
mark rest = cond (eqb rest 0) 32 (48 + rest % 10)

-- the w columns left of the last
unfoldable pub rests : ℕ → ℕ → List ℕ
rests zero rest = []
rests (suc w) rest = rests w (rest / 10) ++ (mark rest ∷ [])

-- columns are as many as they say
pub length-rests : (w r : ℕ) → length (rests w r) ≡ w
unfolding rests
length-rests zero r = refl
length-rests (suc w) r = length-append (rests w (r / 10)) (mark r ∷ []) ∙ omega (arith, length-rests w (r / 10))

spaces : (w : ℕ) → rests w 0 ≡ replicate w 32
unfolding rests
spaces zero = refl
spaces (suc w) =
    ap (λ (l : List ℕ). l ++ (32 ∷ [])) (spaces w)
    ∙ replicate-append-replicate w 1 32
    ∙ ap (λ (n : ℕ). replicate n 32) (add-one w)

right_one : (w n : ℕ) → n < 10 → right (suc w) n ≡ replicate w 32 ++ ((48 + n) ∷ [])
right_one w n h =
    let k : suc w - length (digits n) ≡ w = ap (λ (l : List ℕ). suc w - length l) (one_digit n h) ∙ omega arith in
    right_is (suc w) n ∙ rw (k, last_one w n h)

right_more : (w n : ℕ) → 10 ≤ n → right (suc w) n ≡ right w (n / 10) ++ ((48 + n % 10) ∷ [])
right_more w n h =
    let S : List ℕ = replicate (w - length (digits (n / 10))) 32 in
    let k : suc w - length (digits n) ≡ w - length (digits (n / 10)) = omega (arith, one_more n h) in
    right_is (suc w) n
    ∙ rw (k, last_more w n h) (sym (append_assoc S (last_digits w (n / 10)) ((48 + n % 10) ∷ [])))
    ∙ ap (λ (l : List ℕ). l ++ ((48 + n % 10) ∷ [])) (sym (right_is w (n / 10)))

-- the last column, where those left of it are known
ends : (w n : ℕ) → (0 < n / 10 → rests w (n / 10) ≡ right w (n / 10))
    → right (suc w) n ≡ rests w (n / 10) ++ ((48 + n % 10) ∷ [])
ends w n front = by_size (ltb n 10) refl
  where
    by_size : (b : Bool) → ltb n 10 ≡ b → right (suc w) n ≡ rests w (n / 10) ++ ((48 + n % 10) ∷ [])
    by_size true e =
        let h = ltb-true n 10 e in
        let z : n / 10 ≡ 0 = omega arith in
        let d : n % 10 ≡ n = omega arith in
        right_one w n h ∙ rw (z, d, spaces w)
    by_size false e =
        let h = ltb-false n 10 e in
        right_more w n h ∙ ap (λ (l : List ℕ). l ++ ((48 + n % 10) ∷ [])) (sym (front (omega arith)))

rests_right : (w r : ℕ) → 0 < r → rests w r ≡ right w r
unfolding rests
rests_right zero r p =
    let z : 0 - length (digits r) ≡ 0 = omega arith in
    sym (right_is 0 r ∙ rw (last_none r, z))
rests_right (suc w) r p =
    rw (ne_eqb r 0 (λ e. omega (arith, e))) (sym (ends w r (rests_right w (r / 10))))

-- THEOREM: the columns of a number, the last apart.
pub right_ends : (w n : ℕ) → right (suc w) n ≡ rests w (n / 10) ++ ((48 + n % 10) ∷ [])
right_ends w n = ends w n (rests_right w (n / 10))

-- columns left of the last read back
pub read_rests : (w r : ℕ) → r < 10 ^ w → read_back (rests w r) ≡ r
unfolding rests read_back
read_rests zero r h = omega (arith, pow-zero 10)
read_rests (suc w) r h =
    read_more (rests w (r / 10)) (mark r) ∙ by-rest (eqb r 0) refl (read_rests w (r / 10) (omega (arith, pow-suc 10 w)))
  where
    by-rest : (b : Bool) → eqb r 0 ≡ b → read_back (rests w (r / 10)) ≡ r / 10
        → cond (eqb (mark r) 32) (read_back (rests w (r / 10))) (read_back (rests w (r / 10)) * 10 + (mark r - 48)) ≡ r
    by-rest true e f = rw (e, f) (omega (arith, eqb-true r 0 e))
    by-rest false e f = rw (e, f) (read_digit (r / 10) (r % 10) (omega arith) ∙ omega arith)
