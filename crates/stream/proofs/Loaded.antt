-- The input's bytes: what an accepted size means, and the two answers of the load.
use Prim.Native.Nat.{ℕ, ◌/◌, ◌%◌, ◌≤◌}
use mathlib.Core.Path.{◌≡◌, refl, ap, ◌∙◌}
use mathlib.Core.Bool.{Bool, true, false, cond}
use mathlib.Core.List.{List, ◌++◌}
use native.Mathlib.Omega.{arith}
use lib.Dec.{eqb, ltb}
use lib.ListN.{length, take, drop}
use lib.Seq.{take_at}
use borrow.Author.Tests.{ltb-false, eqb-true, eq-eqb}
use Rattle.text.specs.Words.{words_to}
use Rattle.text.proofs.Stores.{length-words}
use Rattle.stream.specs.Stream.{size_refusal, input_words, input_refusal, loaded, check_of}

pub size_fits : (n : ℕ) → size_refusal n ≡ 0 → n ≤ 65536
unfolding size_refusal
size_fits n h = by_size (ltb 65536 n) refl (cond (eqb (n % 8) 0) 0 21) h
  where
    by_size : (b : Bool) → ltb 65536 n ≡ b → (m : ℕ) → ◌≡◌ {A = ℕ} (cond b 21 m) 0 → n ≤ 65536
    by_size true e m z = absurd (omega (arith, z))
    by_size false e m z = ltb-false _ _ e

module _ (bs ws : List ℕ) where
  pub size_refused : (r : ℕ) → r ≡ size_refusal (length bs) → size_refusal (length bs) ≡ 21
      → (r ≡ input_refusal bs) × (ws ≡ loaded bs ws)
  unfolding input_refusal loaded
  size_refused r e h = (e ∙ h ∙ rw h, rw h)

  pub size_taken : (out : List ℕ) (r : ℕ) → size_refusal (length bs) ≡ 0
      → out ≡ words_to bs (length bs / 8) ++ drop (length bs / 8) ws
      → r ≡ check_of (take (length bs / 8) out)
      → (r ≡ input_refusal bs) × (out ≡ loaded bs ws)
  unfolding input_refusal loaded input_words
  size_taken out r h o q =
      let n : ℕ = length bs / 8 in
      let e = eq-eqb (size_refusal (length bs)) 0 h in
      let t : take n out ≡ words_to bs n =
      ap (take n) o ∙ take_at (words_to bs n) (drop n ws) n (length-words bs n) in
      (rw e (q ∙ ap check_of t), rw e o)

  -- an accepted input stands at the start of the words, whole
  pub taken_up : (out : List ℕ) → input_refusal bs ≡ 0 → out ≡ loaded bs ws
      → (take (length bs / 8) out ≡ input_words bs)
      × (check_of (input_words bs) ≡ 0)
      × (length (input_words bs) ≡ length bs / 8)
      × (length bs ≤ 65536)
  unfolding input_refusal loaded input_words
  taken_up out h o = by_size (eqb (size_refusal (length bs)) 0) refl h o
    where
      by_size : (b : Bool) → eqb (size_refusal (length bs)) 0 ≡ b
          → cond b (check_of (input_words bs)) 21 ≡ 0
          → out ≡ cond b (input_words bs ++ drop (length bs / 8) ws) ws
          → (take (length bs / 8) out ≡ input_words bs)
          × (check_of (input_words bs) ≡ 0)
          × (length (input_words bs) ≡ length bs / 8)
          × (length bs ≤ 65536)
      by_size true e z q =
          let n : ℕ = length bs / 8 in
          let l : length (words_to bs n) ≡ n = length-words bs n in
          (ap (take n) q ∙ take_at (words_to bs n) (drop n ws) n l, z, l, size_fits (length bs) (eqb-true _ _ e))
      by_size false e z q = absurd (omega (arith, z))
