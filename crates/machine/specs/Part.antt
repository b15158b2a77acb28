-- What a call writes through the part of an output that starts at a place, beside what stands before and behind it.
use Rattle.std.specs.Prelude.{ℕ, ◌+◌, ◌-◌, ◌≤◌, ◌≡◌, List, ◌++◌, length, take, drop}
use Rattle.std.proofs.Common.{sym, ap, ◌∙◌, append_assoc, append-nil, arith, length-append, length-take, length-drop, take_at, drop_at, drop-drop}
use Rattle.std.proofs.Math.Seq.{take-length, drop-length}

-- the output after a call was lent the part from `at` on and left it as ys
abbrev pub through : List ℕ → ℕ → List ℕ → List ℕ
through out at ys = take at out ++ (ys ++ drop (length out - at) (drop at out))

-- the part that is lent
abbrev pub from : List ℕ → ℕ → List ℕ
from out at = take (length out - at) (drop at out)

-- it is all that stands there
pub from_is : (out : List ℕ) (at : ℕ) → from out at ≡ drop at out
from_is out at = ap (λ (k : ℕ). take k (drop at out)) (sym (length-drop at out)) ∙ take-length (drop at out)

pub through_is : (out ys : List ℕ) (at : ℕ) → through out at ys ≡ take at out ++ ys
through_is out ys at =
    let e : drop (length out - at) (drop at out) ≡ drop (length (drop at out)) (drop at out) = rw length-drop in
    rw (e, drop-length (drop at out), append-nil ys)

-- a call that puts w over the first k words of its part
pub over_part : (out w ys : List ℕ) (at k : ℕ) → ys ≡ w ++ drop k (from out at)
    → through out at ys ≡ take at out ++ (w ++ drop (at + k) out)
over_part out w ys at k y = rw (through_is, y, from_is, drop-drop)

-- Where the output is R and then what stood there at first, o, and the call puts w at the front of its part, it is then
-- R, w and what stood there.
pub written : (R o out w ys : List ℕ) (at k : ℕ) → at ≡ length R → k ≡ length w → out ≡ R ++ drop at o
    → ys ≡ w ++ drop k (from out at) → through out at ys ≡ R ++ w ++ drop (at + k) o
written R o out w ys at k e q h y =
    let d : drop at out ≡ drop at o = ap (drop at) h ∙ drop_at R (drop at o) at (sym e) in
    let t : take at out ≡ R = ap (take at) h ∙ take_at R (drop at o) at (sym e) in
    rw (through_is, y, from_is, t, d, drop-drop) (sym (append_assoc R w (drop (at + k) o)))

-- A part that comes back as long as it was leaves the output's length.
pub same : (out ys : List ℕ) (at : ℕ) → at ≤ length out → length ys ≡ length (from out at)
    → length (through out at ys) ≡ length out
same out ys at h e = simp (length-append, e, length-take, length-drop) (omega arith)
