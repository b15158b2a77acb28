-- A line that grows cell by cell.
use Rattle.std.specs.Prelude.{ℕ, suc, ◌+◌, ◌<◌, ◌≡◌, refl, List, [], ◌∷◌, ◌++◌, length, take, drop, set, get_or}
use Rattle.std.proofs.Common.{sym, ap, ◌∙◌, append_assoc, arith, length-append, drop_at, take_at, drop-cons, drop-drop}
use Rattle.std.proofs.lemmas.List.{set_at}
use Rattle.columns.specs.Columns.{right, cell_in}
use Rattle.columns.proofs.Fits.{length-right}

-- the text `out` is R, of k bytes, and then what stood in o at first
pub record Upto (o R : List ℕ) (k : ℕ) (out : List ℕ) : Type 0 where
  pub size : length R ≡ k
  pub is : out ≡ R ++ drop k o

pub start : (o : List ℕ) → Upto o [] 0 o
start o = record { size = refl; is = refl }

-- k bytes more
pub more : {o R out out' : List ℕ} {at : ℕ} (w : List ℕ) (k : ℕ) → length w ≡ k → Upto o R at out
    → out' ≡ take at out ++ (w ++ drop (at + k) out) → Upto o (R ++ w) (at + k) out'
more {o} {R} {out} {out'} {at} w k n u y =
    let t : take at out ≡ R = ap (take at) u.is ∙ take_at R (drop at o) at u.size in
    let d : drop at out ≡ drop at o = ap (drop at) u.is ∙ drop_at R (drop at o) at u.size in
    let q : drop (at + k) out ≡ drop (at + k) o = sym (drop-drop k at out) ∙ ap (drop k) d ∙ drop-drop k at o in
    record {
      size = length-append R w ∙ omega (arith, u.size);
      is = y ∙ rw (t, q) (sym (append_assoc R w (drop (at + k) o)));
    }

-- a cell more
pub cell : {o R out out' : List ℕ} {at : ℕ} (w n : ℕ) → Upto o R at out
    → out' ≡ cell_in at w n out → Upto o (R ++ right w n) (at + w) out'
unfolding cell_in
cell w n u y = more (right w n) w (length-right w n) u y

-- the line feed, and the line with what stands behind it
pub feed : {o R out : List ℕ} {at : ℕ} (k : ℕ) → Upto o R at out → k ≡ suc at → at < length o
    → Upto o (R ++ (10 ∷ [])) k (set out at 10)
feed {o} {R} {out} {at} k u q h = record {
  size = length-append R (10 ∷ []) ∙ omega (arith, u.size);
  is =
      rw (q, u.is, drop-cons o at 0, set_at R (get_or o at 0) (drop (suc at) o) 10 at u.size)
      (sym (append_assoc R (10 ∷ []) (drop (suc at) o)));
}
