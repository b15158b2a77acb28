-- Refusals in order, each by its number; 0 where there is none. Definitions; laws stand in `Laws`.
pub mod Laws
use Rattle.std.specs.Prelude.{ℕ, zero, suc, ◌+◌, cond, eqb}

-- the first refusal, or where there is none the second
unfoldable pub or_else : ℕ → ℕ → ℕ
or_else a b = cond (eqb a 0) b a

-- the first refusal among those of i, i + 1, .., k of them
unfoldable pub first_refusal : (ℕ → ℕ) → ℕ → ℕ → ℕ
first_refusal f zero i = 0
first_refusal f (suc k) i = or_else (f i) (first_refusal f k (i + 1))
