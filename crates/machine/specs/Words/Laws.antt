-- Laws of draws from words: every chance is fit (`chance_fits`), the code's quotients are the definitions' (`quotient_is_chance`,
-- `quotient_is_unit`), a source of words tells why it refuses (`words_tell`), and what the code is lent is one of the two sources
-- (`lent_words`, `lent_tapes`). Assumes nothing.
use Rattle.std.specs.Prelude.{ℕ, suc, ◌+◌, ◌*◌, ◌/◌, ◌%◌, ◌^◌, ◌≤◌, ◌<◌, Bool, true, false, cond, List, [], ◌∷◌, ◌≡◌, refl, length, get_or, drop, T, ltb, eqb, ℤ, pos, negsuc, Float}
use Rattle.std.proofs.Common.{mul-le-mul_right, mod-lt, mul_assoc, mul-lt-mul_of_pos_right, lt_trans, mul-one, mod-eq_of_lt, arith, true≢false, sym, ap, ◌∙◌, drop_of_length-le, lit<, ne_eqb, lt-ltb, le-ltb}
use Rattle.std.proofs.Math.Nat.{one-le-pow}
use Rattle.std.proofs.Math.Decide.{dec_lt}
use Rattle.std.specs.Float.{Format, nan, inf, fin, binary32, binary64}
use Rattle.std.specs.Float.Ieee.{up, down, round, of_int, of_bits, div, lt, le}
use Rattle.std.specs.Float.Ieee.Exact.{HasValue, round_exact}
use Rattle.std.specs.Float.Ieee.Order.{le_of_values}
use Rattle.std.specs.Float.Ieee.Scale.{round_same}
use Rattle.machine.specs.Source.{no, got, Tells, Telling, fit_chance, place, tapes}
use Rattle.machine.specs.Words.{chance_of, unit_of, value_of, word_chance, word_value, words, lent}
use Rattle.machine.specs.declared.source.Place.{Place}

is_true : (b : Bool) → T b → b ≡ true
is_true true t = refl
is_true false t = absurd t

down_pos : (e : ℤ) → 0 < down e
down_pos (pos k) = lit< tt
down_pos (negsuc k) = one-le-pow (suc k) 2 (lit< tt)

-- a fraction of at least 0 and below 1
fit_value : (x : Float) (k c : ℕ) → 0 < c → k < c → HasValue x false k c → fit_chance x ≡ true
unfolding of_bits lt
fit_value nan k c p h v = absurd v
fit_value (inf s) k c p h v = absurd v
fit_value (fin true m e) k c p h v = absurd (true≢false v.0)
fit_value (fin false m e) k c p h v =
    rw (is_true (le (fin false 0 (pos 0)) (fin false m e)) at_least, under)
  where
    at_least : T (le (fin false 0 (pos 0)) (fin false m e))
    at_least = le_of_values (fin false 0 (pos 0)) (fin false m e) 0 1 k c (lit< tt) p (refl, refl) v (omega arith)

    less : m * up e * 1 < 1 * 1 * down e
    less = elim (dec_lt (m * up e) (down e)) [
      | yes l ↦ omega (arith, l)
      | Dec.no l ↦
          (let a = mul-le-mul_right c (ge (m * up e) (down e) l) in
          let b = mul-le-mul_right (down e) h in
          absurd (against (m * up e) (down e) a b v.1 (down_pos e)))
    ]
      where
        ge : (a b : ℕ) → (a < b → ⊥) → b ≤ a
        ge a b n = omega arith

        against : (a d : ℕ) → d * c ≤ a * c → suc k * d ≤ c * d → a * c ≡ k * d → 0 < d → ⊥
        against a d p q r s = omega (arith, p, q, r, s)

    under : lt (fin false m e) (fin false 1 (pos 0)) ≡ true
    under = lt-ltb (m * up e * 1) (1 * 1 * down e) less

pub chance_fits : (w : ℕ) → fit_chance (chance_of w) ≡ true
chance_fits w =
    fit_value (chance_of w) (w / 2 ^ 40 % 2 ^ 24) (2 ^ 24) (lit< tt) (mod-lt (w / 2 ^ 40) (lit< tt))
    (exact (w / 2 ^ 40 % 2 ^ 24) (mod-lt (w / 2 ^ 40) (lit< tt)))
  where
    exact : (k : ℕ) → k < 2 ^ 24 → HasValue (round binary32 false k (2 ^ 24)) false k (2 ^ 24)
    exact k h =
        round_exact binary32 false k (2 ^ 24) k 125 (lit< tt) h
        (lt_trans (mul-lt-mul_of_pos_right h (lit< tt)) (lit< tt)) (sym (mul_assoc k (2 ^ 125) (2 ^ 24)))

-- ---- what the code does: a whole number of few enough digits as a float, divided by 2 ^ n, is that fraction rounded once
by_value : (f : Format) (n : ℕ) (x : Float) (k : ℕ) → HasValue x false k 1 → div f x (fin false 1 (pos n)) ≡ round f false k (2 ^ n)
unfolding div
by_value f n nan k v = absurd v
by_value f n (inf s) k v = absurd v
by_value f n (fin true m e) k v = absurd (true≢false v.0)
by_value f n (fin false m e) k v =
    round_same f false (m * up e * 1) (1 * 2 ^ n * down e) k (2 ^ n) (bigger (2 ^ n) (down e) (one-le-pow n 2 (lit< tt)) (down_pos e))
    (one-le-pow n 2 (lit< tt)) (crossed (m * up e) (2 ^ n) (down e) v.1)
  where
    bigger : (p d : ℕ) → 0 < p → 0 < d → 0 < 1 * p * d
    bigger p d h g = let w = mul-le-mul_right d h in omega (arith, w, g)

    crossed : (a p d : ℕ) → a * 1 ≡ k * d → a * 1 * p ≡ k * (1 * p * d)
    crossed a p d h = ap (λ (z : ℕ). z * p) h ∙ omega arith

pub quotient_is_chance : (w : ℕ) → w < 2 ^ 64
    → div binary32 (of_int binary32 (pos (w / 2 ^ 40))) (of_bits binary32 1266679808) ≡ chance_of w
unfolding of_int of_bits
quotient_is_chance w h =
    by_value binary32 24 (round binary32 false (w / 2 ^ 40) 1) (w / 2 ^ 40) (exact (w / 2 ^ 40) small)
    ∙ ap (λ (k : ℕ). round binary32 false k (2 ^ 24)) (sym (mod-eq_of_lt small))
  where
    small : w / 2 ^ 40 < 2 ^ 24
    small = omega (arith, h)

    exact : (k : ℕ) → k < 2 ^ 24 → HasValue (round binary32 false k 1) false k 1
    exact k l =
        round_exact binary32 false k 1 k 149 (lit< tt) l (lt_trans (mul-lt-mul_of_pos_right l (lit< tt)) (lit< tt))
        (sym (mul-one (k * 2 ^ 149)))

pub quotient_is_unit : (w : ℕ) → w < 2 ^ 64
    → div binary64 (of_int binary64 (pos (w / 2 ^ 11))) (of_bits binary64 4845873199050653696) ≡ unit_of w
unfolding of_int of_bits
quotient_is_unit w h =
    by_value binary64 53 (round binary64 false (w / 2 ^ 11) 1) (w / 2 ^ 11) (exact (w / 2 ^ 11) small)
    ∙ ap (λ (k : ℕ). round binary64 false k (2 ^ 53)) (sym (mod-eq_of_lt small))
  where
    small : w / 2 ^ 11 < 2 ^ 53
    small = omega (arith, h)

    exact : (k : ℕ) → k < 2 ^ 53 → HasValue (round binary64 false k 1) false k 1
    exact k l =
        round_exact binary64 false k 1 k 1074 (lit< tt) l (lt_trans (mul-lt-mul_of_pos_right l (lit< tt)) (lit< tt))
        (sym (mul-one (k * 2 ^ 1074)))

-- ---- a source of words tells why it refuses
chance_tells : (ws : List ℕ) (at : Place) → Tells (word_chance ws at)
chance_tells ws at = go (ltb at.value_at (length ws))
  where
    go : (b : Bool)
        → Tells (cond b (got (chance_of (get_or ws at.value_at 0)) (place at.chance_at (at.value_at + 1))) (no 16 at))
    go true = tt
    go false = lit< tt

value_tells : (low high : Float) (ws : List ℕ) (c at : ℕ) → Tells (word_value low high ws c at)
value_tells low high [] c at = lit< tt
value_tells low high (w ∷ ws) c at = go (le high (value_of low high w)) (value_tells low high ws c (at + 1))
  where
    go : (b : Bool) → Tells (word_value low high ws c (at + 1))
        → Tells (cond b (word_value low high ws c (at + 1)) (got (value_of low high w) (place c (at + 1))))
    go true h = h
    go false h = tt

pub words_tell : (ws : List ℕ) → Telling (words ws)
words_tell ws = record {
  chance = chance_tells ws;
  uniform = λ low high s. value_tells low high (drop s.value_at ws) s.chance_at s.value_at;
  outside = λ s. lit< tt;
}

-- ---- what the code is lent
pub lent_tapes : (chances values : List Float) → lent chances values [] ≡ tapes chances values
lent_tapes chances values = refl

pub lent_words : (ws : List ℕ) → lent [] [] ws ≡ words ws
lent_words [] = λ i. record {
  attempt = λ event machine at. at;
  chance = λ at. no-chance at i;
  values = record {
    uniform = λ low high at. no_value low high at.chance_at at.value_at i;
    outside = λ at. no-outside at i;
  };
}
  where
    never : (n : ℕ) → ltb n 0 ≡ false
    never n = le-ltb n 0 (omega arith)

    nil : (n : ℕ) → drop {A = ℕ} n [] ≡ []
    nil n = drop_of_length-le [] {i = n} (omega arith)

    no-chance : (at : Place) → (tapes [] []).chance at ≡ (words []).chance at
    no-chance at = rw (never at.chance_at, never at.value_at)

    no_value : (low high : Float) (c v : ℕ) → (tapes [] []).values.uniform low high (place c v) ≡ (words []).values.uniform low high (place c v)
    no_value low high c v = rw (never v, nil v)

    no-outside : (at : Place) → (tapes [] []).values.outside at ≡ (words []).values.outside at
    no-outside at = rw (never at.value_at)
lent_words (w ∷ ws) = λ i. record {
  attempt = λ event machine at. at;
  chance = meant (tapes [] []).chance (words (w ∷ ws)).chance i;
  values = meant (tapes [] []).values (words (w ∷ ws)).values i;
}
  where
    meant : {A : Type 0} (a b : A) → cond (eqb (length (w ∷ ws)) 0) a b ≡ b
    meant a b = rw (ne_eqb (length (w ∷ ws)) 0 (λ e. omega (arith, e)))
