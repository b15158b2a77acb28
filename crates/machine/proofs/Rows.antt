-- A part of a list whose start and end were cut at the list's length is the part that was asked for.
-- Assumes nothing.
use Prim.Native.Nat.{ℕ, ◌-◌, ◌≤◌, min}
use mathlib.Core.Path.{◌≡◌}
use mathlib.Core.List.{List}
use native.Mathlib.Omega.{arith}
use native.Mathlib.Decide.{dec_le}
use lib.ListN.{length, take, drop, length-drop, drop_of_length-le}
use lib.Seq.{take_all, take-length, drop-length}

take-cut : (n : ℕ) (l : List ℕ) → take (min n (length l)) l ≡ take n l
take-cut n l = go (dec_le n (length l))
  where
    go : Dec (n ≤ length l) → take (min n (length l)) l ≡ take n l
    go (yes h) = let e : min n (length l) ≡ n = omega arith in rw e
    go (no h) =
        let e : min n (length l) ≡ length l = omega arith in
        rw (e, take-length, take_all n l (omega arith))

drop-cut : (n : ℕ) (l : List ℕ) → drop (min n (length l)) l ≡ drop n l
drop-cut n l = go (dec_le n (length l))
  where
    go : Dec (n ≤ length l) → drop (min n (length l)) l ≡ drop n l
    go (yes h) = let e : min n (length l) ≡ n = omega arith in rw e
    go (no h) =
        let e : min n (length l) ≡ length l = omega arith in
        rw (e, drop-length, drop_of_length-le l {i = n} (omega arith))

pub part_cut : (l : List ℕ) (a b : ℕ) →
    take (min b (length l - min a (length l))) (drop (min a (length l)) l) ≡ take b (drop a l)
part_cut l a b =
    let e : length l - min a (length l) ≡ length (drop a l) = omega (arith, length-drop a l) in
    rw (e, drop-cut) (take-cut b (drop a l))
