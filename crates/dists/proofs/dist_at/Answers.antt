-- `dist_at` meets its contract: each part of the record is what its function ensures.
-- Assumes nothing.
use native.Mathlib.Omega.{arith}
use Rattle.dists.specs.Dist.{dist_at}
use Rattle.dists.proofs.dist_at.Goals as goal

pub overflow_add-k : goal.overflow_add-k
overflow_add-k c = omega arith

pub overflow_add-k-2 : goal.overflow_add-k-2
overflow_add-k-2 c = omega arith

pub overflow_add-k-3 : goal.overflow_add-k-3
overflow_add-k-3 c = omega arith

pub overflow_add-k-4 : goal.overflow_add-k-4
overflow_add-k-4 c = omega arith

pub returns : goal.returns
unfolding dist_at
returns c =
    let kind = c.word.ensures in
    let low = c.f64_at.ensures in
    let high = c.f64_at-2.ensures in
    let start = c.f64_at-start.ensures in
    rw (c.dist_type-dist.ensures, kind, low, high, start, c.f64_at-max.ensures)
