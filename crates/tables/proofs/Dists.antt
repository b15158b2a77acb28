-- Which distributions can be invalid: a Uniform, by its bounds. Assumes nothing.
use Rattle.std.proofs.Common.{◌≡◌, ℕ, ◌+◌, List, Bool, true, false, cond, not, ◌&&◌, eqb, eqb-true, get_or, refl}
use Rattle.dists.specs.Dist.{f64_at, dist_type, dist_at, valid_type, valid_uniform, validate}
use Rattle.dists.specs.declared.DistType.TheVariants.{Absent, Outside}
use Rattle.tables.specs.State.{invalid}

other : (b : Bool) → not (valid_type (cond b Absent Outside)) ≡ false
other true = refl
other false = refl

pub invalid_is : (row : List ℕ) (k : ℕ) → invalid row k ≡ (eqb (get_or row k 0) 1 && not (valid_uniform (f64_at row (k + 1)) (f64_at row (k + 2))))
unfolding invalid dist_at dist_type validate
invalid_is row k = either (eqb (get_or row k 0) 1) refl
  where
    either : (b : Bool) → eqb (get_or row k 0) 1 ≡ b
        → invalid row k ≡ (b && not (valid_uniform (f64_at row (k + 1)) (f64_at row (k + 2))))
    either true e = rw (eqb-true (get_or row k 0) 1 e)
    either false e = rw e (other (eqb (get_or row k 0) 0))
