-- How a call on words ends, beside the two-tape call on the tapes worked out from its words: by 24, by the checks of both, by 16 on
-- both, or accepted on both. The theorems about batches and openings are read off these four, and off what a call's run says of the words
-- that it takes. Assumes nothing.
use Rattle.std.specs.Prelude.{ℕ, ◌≤◌, Bool, true, false, cond, ◌&&◌, ◌≡◌, refl, eqb}
use Rattle.std.proofs.Common.{arith, true≢false, sym, ap, ◌∙◌, eqb-true}
use Rattle.std.proofs.lemmas.Bool.{eqb-false}
use Rattle.machine.specs.declared.source.Place.{Place}
use Rattle.outside.specs.Outside.{draws_outside}
use Rattle.steps.specs.Events.{Tables, Outcome, stop, go}
use Rattle.steps.specs.declared.Run.{Run}
use Rattle.steps.specs.Words.{outside_refused}
use Rattle.steps.proofs.Words.Tapes.{at_place, Stops16}
use Rattle.steps.proofs.Words.Taken.{taken, TakesMost, SameWithin}

-- `conclude` makes the answer of a run or a refusal, `checks` is the number that the checks of both calls give, `outside` says whether 24 is
-- given; `of_words` is the call on words, `of_tapes` the two-tape call, and `used` the end of its tapes.
pub data Ends {X : Type 0} (conclude : Outcome → X) (checks : ℕ) (outside : Bool) (used : Place) (of_words of_tapes : X) : Type 0 where
  by-24 : outside ≡ true → of_words ≡ conclude (stop 24) → Ends conclude checks outside used of_words of_tapes
  by-checks : outside ≡ false → (checks ≡ 0 → ⊥) → of_words ≡ conclude (stop checks) → of_tapes ≡ conclude (stop checks)
      → Ends conclude checks outside used of_words of_tapes
  by-16 : outside ≡ false → checks ≡ 0 → of_words ≡ conclude (stop 16) → of_tapes ≡ conclude (stop 16)
      → Ends conclude checks outside used of_words of_tapes
  accepts : outside ≡ false → checks ≡ 0 → (x : Run) → of_words ≡ conclude (go x) → of_tapes ≡ conclude (at_place (go x) used)
      → Ends conclude checks outside used of_words of_tapes

pub ends : {X : Type 0} (conclude : Outcome → X) (checks : ℕ) (outside : Bool) (used : Place) (of_words of_tapes : Outcome)
    → (outside ≡ false → checks ≡ 0 → (of_tapes ≡ at_place of_words used) × Stops16 of_words)
    → Ends conclude checks outside used
    (cond outside (conclude (stop 24)) (cond (eqb checks 0) (conclude of_words) (conclude (stop checks))))
    (cond (eqb checks 0) (conclude of_tapes) (conclude (stop checks)))
ends {X} conclude checks true used of_words of_tapes h = by-24 refl refl
ends {X} conclude checks false used of_words of_tapes h =
    by (eqb checks 0) (eqb-true checks 0) (eqb-false checks 0)
  where
    ran : checks ≡ 0 → (o : Outcome) → Stops16 o → of_tapes ≡ at_place o used
        → Ends conclude checks false used (conclude o) (conclude of_tapes)
    ran c (stop n) s e = by-16 refl c (ap (λ (k : ℕ). conclude (stop k)) s) (ap conclude (e ∙ ap stop s))
    ran c (go x) s e = accepts refl c x refl (ap conclude e)

    by : (b : Bool) → (b ≡ true → checks ≡ 0) → (b ≡ false → checks ≡ 0 → ⊥)
        → Ends conclude checks false used (cond b (conclude of_words) (conclude (stop checks)))
        (cond b (conclude of_tapes) (conclude (stop checks)))
    by true z n = let both = h refl (z refl) in ran (z refl) of_words both.1 both.0
    by false z n = by-checks refl (n refl) refl refl

-- ---- when 24 is given
pub passes_outside : (checks : ℕ) (T : Tables) → outside_refused checks T ≡ true
    → (checks ≡ 0) × (draws_outside T.machines T.states ≡ true)
passes_outside checks T = by (eqb checks 0) (eqb-true checks 0) (draws_outside T.machines T.states)
  where
    by : (a : Bool) → (a ≡ true → checks ≡ 0) → (b : Bool) → (a && b) ≡ true → (checks ≡ 0) × (b ≡ true)
    by true z b e = (z refl, e)
    by false z b e = absurd (true≢false (sym e))

pub is_outside : (checks : ℕ) (T : Tables) → checks ≡ 0 → draws_outside T.machines T.states ≡ true → outside_refused checks T ≡ true
is_outside checks T z e = rw (z, e)

pub not_outside : (checks : ℕ) (T : Tables) → outside_refused checks T ≡ false → checks ≡ 0 → draws_outside T.machines T.states ≡ false
not_outside checks T e z = rw z at e

-- ---- The words taken. `refusal` and `used` read an answer; `words_call` is the call on words, of what its run gives.
abbrev pub words_call : {X : Type 0} → (Outcome → X) → ℕ → Bool → Outcome → X
words_call conclude checks outside o =
    cond outside (conclude (stop 24)) (cond (eqb checks 0) (conclude o) (conclude (stop checks)))

module _ {X : Type 0} (conclude : Outcome → X) (refusal used : X → ℕ) (refuses : (n : ℕ) → refusal (conclude (stop n)) ≡ n)
    (idle : (n : ℕ) → used (conclude (stop n)) ≡ 0) (takes : (x : Run) → used (conclude (go x)) ≡ taken x) (checks : ℕ) (outside : Bool) where
  -- no more than its run takes
  pub used_most : (n : ℕ) (o : Outcome) → TakesMost n o → used (words_call conclude checks outside o) ≤ n
  used_most n o h = by outside (eqb checks 0) o h
    where
      none : (k : ℕ) → used (conclude (stop k)) ≤ n
      none k = let e = idle k in omega (arith, e)

      by : (a b : Bool) (o : Outcome) → TakesMost n o
          → used (cond a (conclude (stop 24)) (cond b (conclude o) (conclude (stop checks)))) ≤ n
      by true b o h = none 24
      by false true (stop k) h = none k
      by false true (go x) h = let e = takes x in omega (arith, e, h)
      by false false o h = none checks

  -- accepted after at most n words, it is the same on a run that is the same within n
  pub used_same : (n : ℕ) (o o' : Outcome) → (outside ≡ false → checks ≡ 0 → Stops16 o) → SameWithin n o o'
      → refusal (words_call conclude checks outside o) ≡ 0 → used (words_call conclude checks outside o) ≤ n
      → words_call conclude checks outside o' ≡ words_call conclude checks outside o
  used_same n o o' stops h = by outside (λ e. e) (eqb checks 0) (eqb-true checks 0) o stops h
    where
      by : (a : Bool) → (a ≡ false → outside ≡ false) → (b : Bool) → (b ≡ true → checks ≡ 0) → (o : Outcome)
          → (outside ≡ false → checks ≡ 0 → Stops16 o) → SameWithin n o o'
          → refusal (cond a (conclude (stop 24)) (cond b (conclude o) (conclude (stop checks)))) ≡ 0
          → used (cond a (conclude (stop 24)) (cond b (conclude o) (conclude (stop checks)))) ≤ n
          → cond a (conclude (stop 24)) (cond b (conclude o') (conclude (stop checks)))
          ≡ cond a (conclude (stop 24)) (cond b (conclude o) (conclude (stop checks)))
      by true p b q o stops h r u = refl
      by false p false q o stops h r u = refl
      by false p true q (stop k) stops h r u =
          absurd (let s = stops (p refl) (q refl) in let e = refuses k in omega (arith, s, e, r))
      by false p true q (go x) stops h r u = ap conclude (h (let e = takes x in omega (arith, e, u)))
