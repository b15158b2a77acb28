-- With room, without, and no columns at all.
use Prim.Native.Nat.{ℕ, ◌*◌, ◌/◌, ◌≤◌, ◌<◌}
use mathlib.Core.Path.{◌≡◌, refl, ◌∙◌}
use mathlib.Core.Bool.{Bool, true, false}
use mathlib.Core.List.{List, [], ◌∷◌, ◌++◌}
use native.Mathlib.Omega.{arith}
use native.Mathlib.Nat.{le-div_iff_mul-le, zero-mul, mul_comm}
use lib.ListN.{length, drop}
use lib.Dec.{leb}
use borrow.Author.Tests.{le-leb, lt-leb, leb-true, leb-false}
use Rattle.columns.specs.Columns.{rights}
use Rattle.columns.proofs.Fits.{length-rights}
use Rattle.columns_link.specs.Put.{Put}

-- as many numbers as the quotient have room
pub inside : (w n k : ℕ) → 0 < w → n ≤ k / w → w * n ≤ k
inside w n k p h = rw (mul_comm w n) ((le-div_iff_mul-le {k = w} p).0 h)

pub outside : (w n k : ℕ) → 0 < w → k / w < n → k < w * n
outside w n k p h = by_size (leb (w * n) k) refl
  where
    by_size : (b : Bool) → leb (w * n) k ≡ b → k < w * n
    by_size true e =
        let l : n * w ≤ k = rw (mul_comm w n) at (leb-true (w * n) k e) in
        absurd (omega (arith, h, (le-div_iff_mul-le {k = w} p).1 l))
    by_size false e = leb-false (w * n) k e

module _ (w : ℕ) (ns text : List ℕ) where
  pub no_room : length text < w * length ns → Put w ns text 0 text
  no_room h = rw (lt-leb (w * length ns) (length text) h) (refl, refl)

  pub all_put : (out : List ℕ) → w * length ns ≤ length text → out ≡ rights w ns ++ drop (w * length ns) text
      → Put w ns text (w * length ns) out
  all_put out h e = rw (le-leb (w * length ns) (length text) h) (refl, e)

no_columns : (ns : List ℕ) → length (rights 0 ns) ≡ 0
no_columns ns = length-rights 0 ns ∙ zero-mul (length ns)

empty : (l : List ℕ) → length l ≡ 0 → l ≡ []
empty [] e = refl
empty (x ∷ l) e = absurd (omega (arith, e))

-- no columns take no room, and nothing is written
pub none : (w : ℕ) (ns text : List ℕ) → w ≡ 0 → Put w ns text 0 text
none w ns text e =
    let z : w * length ns ≡ 0 = rw e (zero-mul (length ns)) in
    let r : rights w ns ≡ [] = rw e (empty (rights 0 ns) (no_columns ns)) in
    rw (z, r, le-leb 0 (length text) (omega arith)) (refl, refl)
