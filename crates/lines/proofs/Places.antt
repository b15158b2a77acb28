-- Pieces of one size inside a list: piece number i stands behind i others.
use Rattle.std.proofs.Common.{ℕ, suc, ◌+◌, ◌*◌, ◌/◌, ◌≤◌, ◌<◌, arith}
use native.Mathlib.Nat.{le-div_iff_mul-le, mul-suc, suc-mul, mul_comm, mul-le-mul_left}

-- piece i of n
pub place : (size i n : ℕ) → i < n → size * i + size ≤ size * n
place size i n h = omega (arith, mul-suc size i, mul-le-mul_left {m = suc i} {n = n} size h)

-- piece i of as many as fit
pub inside : (size i len : ℕ) → 0 < size → i < len / size → size * i + size ≤ len
inside size i len some h =
    omega (arith, (le-div_iff_mul-le {k = size} {x = suc i} {y = len} some).0 h, suc-mul i size, mul_comm i size)

-- as many as fit lie inside
pub all_inside : (size len : ℕ) → 0 < size → size * (len / size) ≤ len
all_inside size len some = omega (arith, (le-div_iff_mul-le {k = size} {x = len / size} {y = len} some).0 (omega arith), mul_comm size (len / size))
