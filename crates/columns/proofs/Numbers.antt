-- Numbers in columns, one after the other.
use Prim.Native.Nat.{ℕ, zero, suc, ◌+◌, ◌*◌, ◌≤◌, ◌<◌}
use mathlib.Core.Path.{◌≡◌, refl, sym, ap, ◌∙◌}
use mathlib.Core.List.{List, [], ◌∷◌, ◌++◌, append_assoc, append-nil}
use native.Mathlib.Omega.{arith}
use native.Mathlib.Numerals.{add-one}
use native.Mathlib.Nat.{mul-suc, mul-le-mul_left}
use lib.ListN.{length, take, drop, get_or}
use lib.Seq.{take-length, length-take-le}
use Rattle.columns.specs.Columns.{right, cell_in, rights}
use Rattle.columns.proofs.Fits.{length-rights}
use Rattle.columns.proofs.Line.{Upto, cell}

module _ (w : ℕ) where
  -- one more behind those before it
  rights-more : (ns : List ℕ) (i : ℕ) → i < length ns → rights w (take (suc i) ns) ≡ rights w (take i ns) ++ right w (get_or ns i 0)
  unfolding rights
  rights-more [] i h = absurd (omega (arith, h))
  rights-more (n ∷ ns) zero h = append-nil (right w n)
  rights-more (n ∷ ns) (suc i) h =
      ap (λ (l : List ℕ). right w n ++ l) (rights-more ns i (omega (arith, h)))
      ∙ sym (append_assoc (right w n) (rights w (take i ns)) (right w (get_or ns i 0)))

  module _ (ns o : List ℕ) where
    -- the text where the first i numbers stand, up to `at`
    abbrev pub stand : ℕ → ℕ → List ℕ
    stand i at = rights w (take i ns) ++ drop at o

    -- none yet
    pub no_number : o ≡ stand 0 0
    unfolding rights
    no_number = refl

    -- there is room for one more
    pub room : (out : List ℕ) (at i : ℕ) → i < length ns → w * length ns ≤ length out → at ≡ w * i → at + w ≤ length out
    room out at i h r p =
        omega (arith, p, mul-suc w i, mul-le-mul_left {m = suc i} {n = length ns} w h)

    -- one more
    pub next_place : (at i : ℕ) → at ≡ w * i → at + w ≡ w * (i + 1)
    next_place at i p = rw (add-one, mul-suc, p)

    pub one_number : (out out' : List ℕ) (at i : ℕ) → i < length ns → at ≡ w * i → out ≡ stand i at
        → out' ≡ cell_in at w (get_or ns i 0) out → out' ≡ stand (i + 1) (at + w)
    one_number out out' at i h p s y =
        let k : length (rights w (take i ns)) ≡ at =
        length-rights w (take i ns) ∙ rw (length-take-le i ns (omega arith)) (sym p) in
        let u : Upto o (rights w (take i ns)) at out = record { size = k; is = s } in
        rw (add-one, rights-more ns i h) (cell w (get_or ns i 0) u y).is

    -- all
    pub all_numbers : (out : List ℕ) (at i : ℕ) → i ≡ length ns → at ≡ w * i → out ≡ stand i at
        → out ≡ rights w ns ++ drop (w * length ns) o
    all_numbers out at i e p s = rw (p, e, take-length ns) at s
