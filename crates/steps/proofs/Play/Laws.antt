-- What holds of every tree of questions, and so of the steps. The draws that a source gives on its way down are worked out
-- (`worked_out`); an honest source runs as the two tapes do on them, which are then used up (`follows`), and refuses as 16 alone
-- (`only_16`). Counting attempts and draws changes nothing (`counts_dropped`); what bounds the counts at every leaf bounds them in every run (`run_below`),
-- and on two tapes of the bounds' lengths 17 is the only refusal (`only_17`). Assumes nothing.
use Rattle.std.specs.Prelude.{ℕ, zero, suc, ◌+◌, ◌-◌, ◌≤◌, ◌<◌, Bool, true, false, cond, List, [], ◌∷◌, ◌≡◌, refl, length, get_or, drop, Float}
use Rattle.std.proofs.Common.{arith, sym, ap, ◌∙◌, length-drop, lt-ltb, le-ltb}
use Rattle.std.specs.Float.{nan}
use Rattle.machine.specs.Source.{Drawn, no, got, Source, fit_chance, fit_uniform, any_value, place, on_tape, tapes}
use Rattle.machine.specs.declared.source.Place.{Place}
use Rattle.steps.specs.Play.{Play, ends, attempts, ask_chance, ask_uniform, ask_outside, after, run, Alike, run_alike, Counts, attempted, chanced, valued, Leaves, Served}
use Rattle.steps.specs.Play.Laws.{Given, chance_given, value_given, given_by, worked_out, Fit, Honest, retold}

-- ---- a tape from a position on
past : {A : Type 0} (xs : List A) (at : ℕ) → drop at xs ≡ [] → length xs ≤ at
past xs at e = let h = sym (length-drop at xs) ∙ ap length e in omega (arith, h)

get_d_drop : {A : Type 0} (xs : List A) (at : ℕ) (d : A) → get_or xs at d ≡ get_or (drop at xs) zero d
get_d_drop xs zero d = refl
get_d_drop [] (suc at) d = refl
get_d_drop (x ∷ xs) (suc at) d = get_d_drop xs at d

drop_more : {A : Type 0} (xs : List A) (at : ℕ) → drop (suc at) xs ≡ drop (suc zero) (drop at xs)
drop_more xs zero = refl
drop_more [] (suc at) = refl
drop_more (x ∷ xs) (suc at) = drop_more xs at

-- the next draw, and what is left after it
pub record Next {A : Type 0} (xs : List A) (at : ℕ) (x d : A) (rest : List A) : Type 0 where
  pub inside : at < length xs
  pub here : get_or xs at d ≡ x
  pub left : drop (at + 1) xs ≡ rest

next : {A : Type 0} (xs : List A) (at : ℕ) (x d : A) (rest : List A) → drop at xs ≡ x ∷ rest → Next xs at x d rest
next {A} xs at x d rest e = record {
  inside = (let h = sym (length-drop at xs) ∙ ap length e in inside_of (length xs) (length rest) h);
  here = get_d_drop xs at d ∙ ap (λ (l : List A). get_or l zero d) e;
  left =
      ap (λ (n : ℕ). drop n xs) (plus_one at) ∙ (drop_more xs at ∙ ap (λ (l : List A). drop (suc zero) l) e);
}
  where
    plus_one : (n : ℕ) → n + 1 ≡ suc n
    plus_one n = omega arith

    inside_of : (n m : ℕ) → n - at ≡ suc m → at < n
    inside_of n m h = omega arith

serves : (fit : Float → Bool) (tape : List Float) (at : ℕ) (after here : Place) (x : Float) (rest : List Float)
    → drop at tape ≡ x ∷ rest → fit x ≡ true → on_tape fit tape at after here ≡ got x after
serves fit tape at after here x rest e f =
    let n = next tape at x nan rest e in
    rw (lt-ltb at (length tape) n.inside, n.here, f)

runs_out : (fit : Float → Bool) (tape : List Float) (at : ℕ) (after here : Place)
    → drop at tape ≡ [] → on_tape fit tape at after here ≡ no 16 here
runs_out fit tape at after here e = rw (le-ltb at (length tape) (past tape at e))

-- a refusal is 16
abbrev pub Only16 : {S A : Type 0} → Drawn S A → Type 0
Only16 (no n s) = n ≡ 16
Only16 (got a s) = Unit

-- ---- An honest source gives what the two tapes give on the draws worked out, and both are used up. So a refusal is 16 there and
-- here, and 17 is never given.
module _ {S : Type 0} (D : Source S) (honest : Honest D) where
  abbrev Follows : {A : Type 0} → Play A → S → Type 0
  Follows t s =
      (cs vs : List Float) (c v : ℕ) → drop c cs ≡ (worked_out D t s).chances → drop v vs ≡ (worked_out D t s).values
      → run (tapes cs vs) t (place c v)
      ≡ retold (run D t s) (place (c + length (worked_out D t s).chances) (v + length (worked_out D t s).values))

  place_is : (c c' v v' : ℕ) → c ≡ c' → v ≡ v' → place c v ≡ place c' v'
  place_is c c' v v' p q = rw (p, q)

  module _ {A : Type 0} (k : Float → Play A) (f : (x : Float) (s : S) → Follows (k x) s) (cs vs : List Float) (c v : ℕ) where
    abbrev Arm : (Float → Given → Given) → Drawn Place Float → Drawn S Float → Type 0
    Arm more o d =
        let g = given_by more (λ x s. worked_out D (k x) s) d in
        drop c cs ≡ g.chances → drop v vs ≡ g.values
        → after o (λ x s. run (tapes cs vs) (k x) s)
        ≡ retold (after d (λ x s. run D (k x) s)) (place (c + length g.chances) (v + length g.values))

    by-chance : (d : Drawn S Float) → Fit fit_chance d
        → Arm chance_given (on_tape fit_chance cs c (place (c + 1) v) (place c v)) d
    by-chance (no n s) h p q =
        rw (runs_out fit_chance cs c (place (c + 1) v) (place c v) p, h)
        (ap (no 16) (place_is c (c + 0) v (v + 0) (omega arith) (omega arith)))
    by-chance (got x s) h p q =
        let g = worked_out D (k x) s in
        rw (serves fit_chance cs c (place (c + 1) v) (place c v) x g.chances p h)
        (f x s cs vs (c + 1) v (next cs c x nan g.chances p).left q
        ∙ ap (retold (run D (k x) s))
        (place_is (c + 1 + length g.chances) (c + suc (length g.chances)) (v + length g.values) (v + length g.values)
        (omega arith) refl))

    by_value : (fit : Float → Bool) (d : Drawn S Float) → Fit fit d
        → Arm value_given (on_tape fit vs v (place c (v + 1)) (place c v)) d
    by_value fit (no n s) h p q =
        rw (runs_out fit vs v (place c (v + 1)) (place c v) q, h)
        (ap (no 16) (place_is c (c + 0) v (v + 0) (omega arith) (omega arith)))
    by_value fit (got x s) h p q =
        let g = worked_out D (k x) s in
        rw (serves fit vs v (place c (v + 1)) (place c v) x g.values q h)
        (f x s cs vs c (v + 1) p (next vs v x nan g.values q).left
        ∙ ap (retold (run D (k x) s))
        (place_is (c + length g.chances) (c + length g.chances) (v + 1 + length g.values) (v + suc (length g.values))
        refl (omega arith)))

  pub follows : {A : Type 0} (t : Play A) → Served t → (s : S) → Follows t s
  follows (ends a) h s cs vs c v p q = ap (got a) (place_is c (c + 0) v (v + 0) (omega arith) (omega arith))
  follows (attempts e m t) h s cs vs c v p q = follows t h (D.attempt e m s) cs vs c v p q
  follows (ask_chance k) h s cs vs c v p q =
      by-chance k (λ x. follows (k x) (h x)) cs vs c v (D.chance s) (honest.chance s) p q
  follows (ask_uniform low high k) h s cs vs c v p q =
      by_value k (λ x. follows (k x) (h.1 x)) cs vs c v (fit_uniform low high) (D.values.uniform low high s)
      (honest.uniform low high h.0 s) p q
  follows (ask_outside k) h s cs vs c v p q = absurd h

  refuses : {A : Type 0} (k : Float → Play A) (fit : Float → Bool) → ((x : Float) (s : S) → Only16 (run D (k x) s))
      → (d : Drawn S Float) → Fit fit d → Only16 (after d (λ x s. run D (k x) s))
  refuses k fit f (no n s) h = h
  refuses k fit f (got x s) h = f x s

  pub only_16 : {A : Type 0} (t : Play A) → Served t → (s : S) → Only16 (run D t s)
  only_16 (ends a) h s = tt
  only_16 (attempts e m t) h s = only_16 t h (D.attempt e m s)
  only_16 (ask_chance k) h s = refuses k fit_chance (λ x. only_16 (k x) (h x)) (D.chance s) (honest.chance s)
  only_16 (ask_uniform low high k) h s =
      refuses k (fit_uniform low high) (λ x. only_16 (k x) (h.1 x)) (D.values.uniform low high s)
      (honest.uniform low high h.0 s)
  only_16 (ask_outside k) h s = absurd h

-- ---- counting: a source beside which attempts and draws are counted
abbrev beside : {S A : Type 0} → Drawn S A → Counts → Counts → Drawn (S × Counts) A
beside (no n s) before after = no n (s, before)
beside (got a s) before after = got a (s, after)

abbrev pub counting : {S : Type 0} → ℕ → Source S → Source (S × Counts)
counting i D = record {
  attempt = λ e m s. (D.attempt e m s.0, attempted i e m s.1);
  chance = λ s. beside (D.chance s.0) s.1 (chanced s.1);
  values = record {
    uniform = λ low high s. beside (D.values.uniform low high s.0) s.1 (valued s.1);
    outside = λ s. beside (D.values.outside s.0) s.1 (valued s.1);
  };
}

abbrev pub countless : {S : Type 0} → S × Counts → S → Type 0
countless s s' = s.0 ≡ s'

module _ {S : Type 0} (i : ℕ) (D : Source S) where
  -- dropping the counts gives the run
  beside-alike : {A : Type 0} (d : Drawn S A) (k k' : Counts) → Alike countless (beside d k k') d
  beside-alike (no n s) k k' = (refl, refl)
  beside-alike (got a s) k k' = (refl, refl)

  pub counts_dropped : {A : Type 0} (t : Play A) (s : S) (k : Counts) → Alike countless (run (counting i D) t (s, k)) (run D t s)
  counts_dropped t s k =
      run_alike countless (counting i D) D
      (record {
        attempt = λ e m s s' r. ap (D.attempt e m) r;
        chance = λ s s' r. rw (sym r) (beside-alike (D.chance s.0) s.1 (chanced s.1));
        uniform = λ low high s s' r. rw (sym r) (beside-alike (D.values.uniform low high s.0) s.1 (valued s.1));
        outside = λ s s' r. rw (sym r) (beside-alike (D.values.outside s.0) s.1 (valued s.1));
      })
      t (s, k) s refl

-- ---- bounds: what holds at every leaf holds of every run, refused ones too
abbrev pub Below : Counts → Counts → Type 0
Below b k =
    (k.attempts ≤ b.attempts) × (k.zeros ≤ b.zeros) × (k.signals ≤ b.signals) × (k.chances ≤ b.chances)
    × (k.values ≤ b.values)

pub leaf_below : {A : Type 0} (i : ℕ) (b : Counts) (t : Play A) (k : Counts) → Leaves i (λ a. Below b) t k → Below b k
leaf_below i b (ends a) k h = h
leaf_below i b (attempts e m t) k h = let w = leaf_below i b t (attempted i e m k) h in omega (arith, w)
leaf_below i b (ask_chance f) k h = let w = leaf_below i b (f nan) (chanced k) (h nan) in omega (arith, w)
leaf_below i b (ask_uniform low high f) k h = let w = leaf_below i b (f nan) (valued k) (h nan) in omega (arith, w)
leaf_below i b (ask_outside f) k h = let w = leaf_below i b (f nan) (valued k) (h nan) in omega (arith, w)

abbrev pub CountsOf : {S A : Type 0} → (Counts → Type 0) → Drawn (S × Counts) A → Type 0
CountsOf P (no n s) = P s.1
CountsOf P (got a s) = P s.1

module _ {S : Type 0} (i : ℕ) (D : Source S) (b : Counts) where
  counted-on : {A : Type 0} (f : Float → Play A) (k k' : Counts) → Below b k
      → ((x : Float) (s : S) → CountsOf (Below b) (run (counting i D) (f x) (s, k')))
      → (d : Drawn S Float) → CountsOf (Below b) (after (beside d k k') (λ x s. run (counting i D) (f x) s))
  counted-on f k k' h g (no n s) = h
  counted-on f k k' h g (got x s) = g x s

  pub run_below : {A : Type 0} (t : Play A) (s : S) (k : Counts) → Leaves i (λ a. Below b) t k
      → CountsOf (Below b) (run (counting i D) t (s, k))
  run_below (ends a) s k h = h
  run_below (attempts e m t) s k h = run_below t (D.attempt e m s) (attempted i e m k) h
  run_below (ask_chance f) s k h =
      counted-on f k (chanced k) (leaf_below i b (ask_chance f) k h) (λ x s. run_below (f x) s (chanced k) (h x)) (D.chance s)
  run_below (ask_uniform low high f) s k h =
      counted-on f k (valued k) (leaf_below i b (ask_uniform low high f) k h) (λ x s. run_below (f x) s (valued k) (h x))
      (D.values.uniform low high s)
  run_below (ask_outside f) s k h =
      counted-on f k (valued k) (leaf_below i b (ask_outside f) k h) (λ x s. run_below (f x) s (valued k) (h x))
      (D.values.outside s)

-- ---- tapes of the length of the bounds are long enough: 17 is the only refusal
abbrev pub Only17 : {A : Type 0} → Drawn Place A → Type 0
Only17 (no n s) = n ≡ 17
Only17 (got a s) = Unit

module _ (i : ℕ) (b : Counts) (cs vs : List Float) (long-c : b.chances ≤ length cs) (long-v : b.values ≤ length vs) where
  unfit : {A : Type 0} (fit : Float → Bool) (tape : List Float) (at : ℕ) (next here : Place) (f : Float → Play A)
      → at < length tape → ((x : Float) → Only17 (run (tapes cs vs) (f x) next))
      → Only17 (after (on_tape fit tape at next here) (λ x s. run (tapes cs vs) (f x) s))
  unfit fit tape at next here f h g = rw (lt-ltb at (length tape) h) (by (fit (get_or tape at nan)))
    where
      by : (b : Bool) → Only17 (after (cond b (got (get_or tape at nan) next) (no 17 here)) (λ x s. run (tapes cs vs) (f x) s))
      by true = g (get_or tape at nan)
      by false = refl

  pub only_17 : {A : Type 0} (t : Play A) (k : Counts) → Leaves i (λ a. Below b) t k
      → Only17 (run (tapes cs vs) t (place k.chances k.values))
  only_17 (ends a) k h = tt
  only_17 (attempts e m t) k h = only_17 t (attempted i e m k) h
  only_17 (ask_chance f) k h =
      let w = leaf_below i b (f nan) (chanced k) (h nan) in
      unfit fit_chance cs k.chances (place (k.chances + 1) k.values) (place k.chances k.values) f
      (omega (arith, w, long-c)) (λ x. only_17 (f x) (chanced k) (h x))
  only_17 (ask_uniform low high f) k h =
      let w = leaf_below i b (f nan) (valued k) (h nan) in
      unfit (fit_uniform low high) vs k.values (place k.chances (k.values + 1)) (place k.chances k.values) f
      (omega (arith, w, long-v)) (λ x. only_17 (f x) (valued k) (h x))
  only_17 (ask_outside f) k h =
      let w = leaf_below i b (f nan) (valued k) (h nan) in
      unfit any_value vs k.values (place k.chances (k.values + 1)) (place k.chances k.values) f
      (omega (arith, w, long-v)) (λ x. only_17 (f x) (valued k) (h x))
