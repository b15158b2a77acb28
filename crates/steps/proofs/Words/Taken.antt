-- The words that a run takes: never more than there are, and the run is the same whatever words follow those that it took. First of
-- every tree of questions, then of the runs of batches and openings. Assumes nothing.
use Rattle.std.specs.Prelude.{ℕ, suc, ◌+◌, ◌≤◌, ◌<◌, Bool, true, false, cond, List, [], ◌∷◌, ◌++◌, ◌≡◌, refl, ltb, Float, length, get_or, drop}
use Rattle.std.proofs.Math.Decide.{dec_le}
use Rattle.std.proofs.Common.{arith, ap, subst, length-drop, length-append, lt-ltb, ltb-true}
use Rattle.std.specs.Float.Ieee.{le}
use Rattle.std.proofs.Math.ListN.{get_or-append}
use Rattle.std.proofs.lemmas.List.{drop-append-le}
use Rattle.machine.specs.Source.{Drawn, no, got, Source, place}
use Rattle.machine.specs.Words.{chance_of, value_of, word_chance, word_value, words}
use Rattle.machine.specs.declared.source.Place.{Place}
use Rattle.steps.specs.Events.{Tables, Outcome, go}
use Rattle.steps.specs.declared.Run.{Run}
use Rattle.steps.specs.Framework.{open_run, trigger_events}
use Rattle.steps.specs.Runs.{OutcomeOk}
use Rattle.steps.specs.Play.{Play, ends, attempts, ask_chance, ask_uniform, ask_outside, after, run, Counts, Plays}
use Rattle.steps.specs.Play.Runs.{Running, outcome}
use Rattle.steps.specs.Words.Sound.{Sound}
use Rattle.steps.proofs.Words.Tapes.{front, BatchCost, triggers_by, batch_play, OpeningCost, opens_by, opening_play}
use Rattle.steps.specs.declared.Framework.{Framework}

-- ---- an answer leaves the position between v and m
abbrev Between : {A : Type 0} → ℕ → ℕ → Drawn Place A → Type 0
Between v m (no n s) = Unit
Between v m (got a s) = (v ≤ s.value_at) × (s.value_at ≤ m)

between_after : {A : Type 0} (v m : ℕ) (d : Drawn Place Float) (k : Float → Place → Drawn Place A) → Between v m d
    → ((c : Float) (s : Place) → s.value_at ≤ m → Between s.value_at m (k c s)) → Between v m (after d k)
between_after {A} v m (no n s) k h f = tt
between_after {A} v m (got c s) k h f = by (k c s) (f c s h.1)
  where
    by : (d : Drawn Place A) → Between s.value_at m d → Between v m d
    by (no n s') g = tt
    by (got a s') g = omega (arith, h, g)

-- a draw takes a word or more
chance_between : (ws : List ℕ) (at : Place) → Between (at.value_at + 1) (length ws) (word_chance ws at)
chance_between ws at = by (ltb at.value_at (length ws)) (ltb-true at.value_at (length ws))
  where
    by : (b : Bool) → (b ≡ true → at.value_at < length ws)
        → Between (at.value_at + 1) (length ws)
        (cond b (got (chance_of (get_or ws at.value_at 0)) (place at.chance_at (at.value_at + 1))) (no 16 at))
    by true h = let l = h refl in omega (arith, l)
    by false h = tt

value_between : (low high : Float) (ws : List ℕ) (c at : ℕ) → Between (at + 1) (at + length ws) (word_value low high ws c at)
value_between low high [] c at = tt
value_between low high (w ∷ ws) c at =
    by (le high (value_of low high w)) (word_value low high ws c (at + 1)) (value_between low high ws c (at + 1))
  where
    by : (b : Bool) (d : Drawn Place Float) → Between (at + 1 + 1) (at + 1 + length ws) d
        → Between (at + 1) (at + suc (length ws)) (cond b d (got (value_of low high w) (place c (at + 1))))
    by true (no n s) h = tt
    by true (got v s) h = omega (arith, h)
    by false d h = omega arith

uniform_between : (low high : Float) (ws : List ℕ) (at : Place) → at.value_at ≤ length ws
    → Between (at.value_at + 1) (length ws) ((words ws).values.uniform low high at)
uniform_between low high ws at h =
    subst (λ (m : ℕ). Between (at.value_at + 1) m ((words ws).values.uniform low high at)) whole
    (value_between low high (drop at.value_at ws) at.chance_at at.value_at)
  where
    whole : at.value_at + length (drop at.value_at ws) ≡ length ws
    whole = let e = length-drop at.value_at ws in omega (arith, e, h)

weaken : {A : Type 0} (v m : ℕ) (d : Drawn Place A) → Between (v + 1) m d → Between v m d
weaken v m (no n s) h = tt
weaken v m (got a s) h = omega (arith, h)

run_between : {A : Type 0} (ws : List ℕ) (t : Play A) (s : Place) → s.value_at ≤ length ws
    → Between s.value_at (length ws) (run (words ws) t s)
run_between ws (ends a) s h = omega (arith, h)
run_between ws (attempts e m t) s h = run_between ws t s h
run_between ws (ask_chance k) s h =
    between_after s.value_at (length ws) (word_chance ws s) (λ c s. run (words ws) (k c) s)
    (weaken s.value_at (length ws) (word_chance ws s) (chance_between ws s)) (λ c. run_between ws (k c))
run_between ws (ask_uniform low high k) s h =
    between_after s.value_at (length ws) ((words ws).values.uniform low high s) (λ c s. run (words ws) (k c) s)
    (weaken s.value_at (length ws) ((words ws).values.uniform low high s) (uniform_between low high ws s h))
    (λ c. run_between ws (k c))
run_between ws (ask_outside k) s h = tt

-- ---- an answer within the first n words is the other's too
abbrev Near : {A : Type 0} → ℕ → Drawn Place A → Drawn Place A → Type 0
Near n (no k s) d = Unit
Near n (got a s) d = s.value_at ≤ n → d ≡ got a s

near_after : {A : Type 0} (n m : ℕ) (d d' : Drawn Place Float) (k k' : Float → Place → Drawn Place A)
    → Near n d d' → (v : ℕ) → Between v m d
    → ((c : Float) (s : Place) → s.value_at ≤ m → Between s.value_at m (k c s))
    → ((c : Float) (s : Place) → s.value_at ≤ m → Near n (k c s) (k' c s))
    → Near n (after d k) (after d' k')
near_after {A} n m (no x s) d' k k' h v b f g = tt
near_after {A} n m (got c s) d' k k' h v b f g = by (k c s) (f c s b.1) (g c s b.1)
  where
    by : (e : Drawn Place A) → Between s.value_at m e → Near n e (k' c s) → Near n e (after d' k')
    by (no x s') p q = tt
    by (got a s') p q = λ l.
        let same = h (omega (arith, p, l)) in
        rw same (q l)

-- nothing is within n where the position is past it
near_past : {A : Type 0} (n v m : ℕ) (d d' : Drawn Place A) → Between (v + 1) m d → n ≤ v → Near n d d'
near_past n v m (no k s) d' b h = tt
near_past n v m (got a s) d' b h = λ l. absurd (omega (arith, b, h, l))

module _ (pre post post' : List ℕ) where
  near-chance : (at : Place) → Near (length pre) (word_chance (pre ++ post) at) (word_chance (pre ++ post') at)
  near-chance at = by (ltb at.value_at (length (pre ++ post)))
    where
      by : (b : Bool)
          → Near (length pre)
          (cond b (got (chance_of (get_or (pre ++ post) at.value_at 0)) (place at.chance_at (at.value_at + 1))) (no 16 at))
          (word_chance (pre ++ post') at)
      by true = λ l.
          let inside : at.value_at < length pre = omega (arith, l) in
          let longer : at.value_at < length (pre ++ post') = (let e = length-append pre post' in omega (arith, e, inside)) in
          rw (
            lt-ltb at.value_at (length (pre ++ post')) longer,
            get_or-append pre post' 0 at.value_at inside,
            get_or-append pre post 0 at.value_at inside,
          )
      by false = tt

  near-value : (low high : Float) (qs : List ℕ) (c at : ℕ)
      → Near (at + length qs) (word_value low high (qs ++ post) c at) (word_value low high (qs ++ post') c at)
  near-value low high [] c at =
      near_past (at + 0) at (at + length post) (word_value low high post c at) (word_value low high post' c at)
      (value_between low high post c at) (omega arith)
  near-value low high (w ∷ qs) c at =
      by (le high (value_of low high w)) (word_value low high (qs ++ post) c (at + 1)) (word_value low high (qs ++ post') c (at + 1))
      (near-value low high qs c (at + 1))
    where
      by : (b : Bool) (d d' : Drawn Place Float) → Near (at + 1 + length qs) d d'
          → Near (at + suc (length qs)) (cond b d (got (value_of low high w) (place c (at + 1))))
          (cond b d' (got (value_of low high w) (place c (at + 1))))
      by true (no k s) d' h = tt
      by true (got a s) d' h = λ l. h (omega (arith, l))
      by false d d' h = λ l. refl

  near-uniform : (low high : Float) (at : Place)
      → Near (length pre) ((words (pre ++ post)).values.uniform low high at) ((words (pre ++ post')).values.uniform low high at)
  near-uniform low high at = elim (dec_le at.value_at (length pre)) [
    | yes h ↦
        (let v = at.value_at in
        let whole : v + length (drop v pre) ≡ length pre = (let e = length-drop v pre in omega (arith, e, h)) in
        rw (drop-append-le v pre post h, drop-append-le v pre post' h)
        (subst
        (λ (m : ℕ). Near m (word_value low high (drop v pre ++ post) at.chance_at v)
        (word_value low high (drop v pre ++ post') at.chance_at v))
        whole (near-value low high (drop v pre) at.chance_at v)))
    | Dec.no h ↦
        near_past (length pre) at.value_at _ ((words (pre ++ post)).values.uniform low high at)
        ((words (pre ++ post')).values.uniform low high at)
        (value_between low high (drop at.value_at (pre ++ post)) at.chance_at at.value_at) (omega arith)
  ]

  run-near : {A : Type 0} (t : Play A) (s : Place) → s.value_at ≤ length (pre ++ post)
      → Near (length pre) (run (words (pre ++ post)) t s) (run (words (pre ++ post')) t s)
  run-near (ends a) s h = λ l. refl
  run-near (attempts e m t) s h = run-near t s h
  run-near (ask_chance k) s h =
      near_after (length pre) (length (pre ++ post)) (word_chance (pre ++ post) s) (word_chance (pre ++ post') s)
      (λ c s. run (words (pre ++ post)) (k c) s) (λ c s. run (words (pre ++ post')) (k c) s) (near-chance s)
      (s.value_at + 1) (chance_between (pre ++ post) s) (λ c. run_between (pre ++ post) (k c)) (λ c. run-near (k c))
  run-near (ask_uniform low high k) s h =
      near_after (length pre) (length (pre ++ post)) ((words (pre ++ post)).values.uniform low high s)
      ((words (pre ++ post')).values.uniform low high s)
      (λ c s. run (words (pre ++ post)) (k c) s) (λ c s. run (words (pre ++ post')) (k c) s) (near-uniform low high s)
      (s.value_at + 1) (uniform_between low high (pre ++ post) s h) (λ c. run_between (pre ++ post) (k c)) (λ c. run-near (k c))
  run-near (ask_outside k) s h = tt

-- ---- the runs of calls
abbrev pub taken : Run → ℕ
taken x = x.shared.place.value_at

-- at most n words were taken
abbrev pub TakesMost : ℕ → Outcome → Type 0
TakesMost n = OutcomeOk (λ k. Unit) (λ x. taken x ≤ n)

-- a run that took at most n words is the other run too
abbrev pub SameWithin : ℕ → Outcome → Outcome → Type 0
SameWithin n o o' = OutcomeOk (λ k. Unit) (λ x. taken x ≤ n → o' ≡ go x) o

module _ (S : Type 0) (Post : ℕ → Running → Counts → Counts → Type 0) (f : Source Place → Place → Outcome) (P : Plays S outcome Post f) where
  takes-most : (ws : List ℕ) → TakesMost (length ws) (f (words ws) front)
  takes-most ws = rw (P.same (words ws) front) (by (run (words ws) P.play front) (run_between ws P.play front (omega arith)))
    where
      by : (d : Drawn Place Running) → Between 0 (length ws) d → TakesMost (length ws) (outcome d)
      by (no n s) h = tt
      by (got x s) h = h.1

  same-within : (pre post post' : List ℕ) → SameWithin (length pre) (f (words (pre ++ post)) front) (f (words (pre ++ post')) front)
  same-within pre post post' =
      rw (P.same (words (pre ++ post)) front, P.same (words (pre ++ post')) front)
      (by (run (words (pre ++ post)) P.play front) (run (words (pre ++ post')) P.play front)
      (run-near pre post post' P.play front (omega arith)))
    where
      by : (d d' : Drawn Place Running) → Near (length pre) d d' → SameWithin (length pre) (outcome d) (outcome d')
      by (no n s) d' h = tt
      by (got x s) d' h = λ l. ap outcome (h l)

-- a batch
module _ (T : Tables) (time : ℕ) (es : List ℕ) (fw : Framework) where
  pub batch_takes_most : (ws : List ℕ) → TakesMost (length ws) (trigger_events T (words ws) time es fw)
  unfolding trigger_events
  batch_takes_most = takes-most (Sound T) (BatchCost T time es fw) (triggers_by T time es fw) (batch_play T time es fw)

  pub batch_same_within : (pre post post' : List ℕ)
      → SameWithin (length pre) (trigger_events T (words (pre ++ post)) time es fw) (trigger_events T (words (pre ++ post')) time es fw)
  unfolding trigger_events
  batch_same_within = same-within (Sound T) (BatchCost T time es fw) (triggers_by T time es fw) (batch_play T time es fw)

-- an opening
module _ (T : Tables) (padding blocking : Float) (time : ℕ) where
  pub opening_takes_most : (ws : List ℕ) → TakesMost (length ws) (open_run T padding blocking time (words ws))
  opening_takes_most =
      takes-most (Sound T) (OpeningCost T padding blocking time) (opens_by T padding blocking time) (opening_play T padding blocking time)

  pub opening_same_within : (pre post post' : List ℕ)
      → SameWithin (length pre) (open_run T padding blocking time (words (pre ++ post))) (open_run T padding blocking time (words (pre ++ post')))
  opening_same_within =
      same-within (Sound T) (OpeningCost T padding blocking time) (opens_by T padding blocking time) (opening_play T padding blocking time)
