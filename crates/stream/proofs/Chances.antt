-- Whether each word of a list is below 2^32.
use Rattle.std.proofs.Common.{ℕ, ◌≡◌, refl, Bool, true, false, ◌&&◌, cond, List, [], ◌∷◌, ltb}
use Rattle.std.specs.List.{list_all}
use Rattle.stream.specs.Stream.{narrow}

pub all_narrow : (ws : List ℕ) → list_all (λ w. ltb w 4294967296) ws ≡ narrow ws
unfolding narrow
all_narrow [] = refl
all_narrow (w ∷ ws) = by_word (ltb w 4294967296) (all_narrow ws)
  where
    by_word : (b : Bool) → list_all (λ (x : ℕ). ltb x 4294967296) ws ≡ narrow ws
        → (b && list_all (λ (x : ℕ). ltb x 4294967296) ws) ≡ cond b (narrow ws) false
    by_word true h = h
    by_word false h = refl
