-- What the steps ask of their source, as a tree: each question with a branch for every answer. A source plays a tree from a state:
-- it goes down by its own answers, to the leaf or to its refusal. The steps of framework.rs are such trees at every source
-- (Play/Steps), so what holds of all trees holds of them: sources that answer alike run alike.
pub mod Samples
pub mod Steps
pub mod Runs
pub mod Laws
use Rattle.std.specs.Prelude.{ℕ, ◌+◌, Bool, true, false, cond, ◌&&◌, List, ◌≡◌, refl, T, eqb, get_or, Float}
use Rattle.std.proofs.Common.{sym, ap, ◌∙◌}
use Rattle.std.specs.Float.{binary64}
use Rattle.std.specs.Float.Ieee.{fits}
use Rattle.machine.specs.Constants.{timeout, duration, limit, counter_a, counter_b}
use Rattle.machine.specs.Source.{Drawn, no, got, Source}
use Rattle.machine.specs.Event.{counter_zero, signal}
use Rattle.machine.specs.declared.source.Place.{Place}
use Rattle.samples.specs.Action.{has_timeout, has_duration, has_limit}
use Rattle.dists.specs.Dist.{dist_at, valid_uniform}
use Rattle.dists.specs.declared.DistType.{DistType}
use Rattle.dists.specs.declared.DistType.TheVariants.{Absent, Uniform, Outside}

pub data Play (A : Type 0) : Type 0 where
  ends : A → Play A
  attempts : ℕ → ℕ → Play A → Play A
  ask_chance : (Float → Play A) → Play A
  ask_uniform : Float → Float → (Float → Play A) → Play A
  ask_outside : (Float → Play A) → Play A

-- what follows an answer; a refusal stays, with the state that it left
abbrev pub after : {S A B : Type 0} → Drawn S A → (A → S → Drawn S B) → Drawn S B
after (no n s) f = no n s
after (got a s) f = f a s

abbrev pub run : {S A : Type 0} → Source S → Play A → S → Drawn S A
run D (ends a) s = got a s
run D (attempts e m t) s = run D t (D.attempt e m s)
run D (ask_chance k) s = after (D.chance s) (λ c s. run D (k c) s)
run D (ask_uniform low high k) s = after (D.values.uniform low high s) (λ c s. run D (k c) s)
run D (ask_outside k) s = after (D.values.outside s) (λ c s. run D (k c) s)

-- ---- one tree after another
abbrev pub then : {A B : Type 0} → Play A → (A → Play B) → Play B
then (ends a) f = f a
then (attempts e m t) f = attempts e m (then t f)
then (ask_chance k) f = ask_chance (λ c. then (k c) f)
then (ask_uniform low high k) f = ask_uniform low high (λ c. then (k c) f)
then (ask_outside k) f = ask_outside (λ c. then (k c) f)

after_after : {S A B : Type 0} (D : Source S) (k : Float → Play A) (f : A → Play B)
    → ((c : Float) (s : S) → run D (then (k c) f) s ≡ after (run D (k c) s) (λ a s. run D (f a) s))
    → (d : Drawn S Float)
    → after d (λ c s. run D (then (k c) f) s) ≡ after (after d (λ c s. run D (k c) s)) (λ a s. run D (f a) s)
after_after D k f h (no n s) = refl
after_after D k f h (got c s) = h c s

pub run_then : {S A B : Type 0} (D : Source S) (t : Play A) (f : A → Play B) (s : S)
    → run D (then t f) s ≡ after (run D t s) (λ a s. run D (f a) s)
run_then D (ends a) f s = refl
run_then D (attempts e m t) f s = run_then D t f (D.attempt e m s)
run_then D (ask_chance k) f s = after_after D k f (λ c. run_then D (k c) f) (D.chance s)
run_then D (ask_uniform low high k) f s = after_after D k f (λ c. run_then D (k c) f) (D.values.uniform low high s)
run_then D (ask_outside k) f s = after_after D k f (λ c. run_then D (k c) f) (D.values.outside s)

-- ---- Sources that answer alike run alike. R relates their states; the answers are the same, and the states stay related.
abbrev pub Alike : {S S' A : Type 0} → (S → S' → Type 0) → Drawn S A → Drawn S' A → Type 0
Alike R (no n s) (no n' s') = (n ≡ n') × R s s'
Alike R (no n s) (got a' s') = ⊥
Alike R (got a s) (no n' s') = ⊥
Alike R (got a s) (got a' s') = (a ≡ a') × R s s'

pub record AnswerAlike {S S' : Type 0} (R : S → S' → Type 0) (D : Source S) (D' : Source S') : Type 0 where
  pub attempt : (e m : ℕ) (s : S) (s' : S') → R s s' → R (D.attempt e m s) (D'.attempt e m s')
  pub chance : (s : S) (s' : S') → R s s' → Alike R (D.chance s) (D'.chance s')
  pub uniform : (low high : Float) (s : S) (s' : S') → R s s'
      → Alike R (D.values.uniform low high s) (D'.values.uniform low high s')
  pub outside : (s : S) (s' : S') → R s s' → Alike R (D.values.outside s) (D'.values.outside s')

module _ {S S' : Type 0} (R : S → S' → Type 0) (D : Source S) (D' : Source S') (h : AnswerAlike R D D') where
  alike-after : {A : Type 0} (k : Float → Play A)
      → ((c : Float) (s : S) (s' : S') → R s s' → Alike R (run D (k c) s) (run D' (k c) s'))
      → (d : Drawn S Float) (d' : Drawn S' Float) → Alike R d d'
      → Alike R (after d (λ c s. run D (k c) s)) (after d' (λ c s. run D' (k c) s))
  alike-after k f (no n s) (no n' s') a = a
  alike-after k f (no n s) (got c' s') a = absurd a
  alike-after k f (got c s) (no n' s') a = absurd a
  alike-after k f (got c s) (got c' s') a =
      rw (sym a.0) (f c s s' a.1)

  pub run_alike : {A : Type 0} (t : Play A) (s : S) (s' : S') → R s s' → Alike R (run D t s) (run D' t s')
  run_alike (ends a) s s' r = (refl, r)
  run_alike (attempts e m t) s s' r = run_alike t (D.attempt e m s) (D'.attempt e m s') (h.attempt e m s s' r)
  run_alike (ask_chance k) s s' r =
      alike-after k (λ c. run_alike (k c)) (D.chance s) (D'.chance s') (h.chance s s' r)
  run_alike (ask_uniform low high k) s s' r =
      alike-after k (λ c. run_alike (k c)) (D.values.uniform low high s) (D'.values.uniform low high s') (h.uniform low high s s' r)
  run_alike (ask_outside k) s s' r =
      alike-after k (λ c. run_alike (k c)) (D.values.outside s) (D'.values.outside s') (h.outside s s' r)

-- ---- What a way down a tree holds: attempts in all, those by CounterZero, those by Signal at machine i, and draws of each kind.
pub record Counts : Type 0 where
  pub attempts : ℕ
  pub zeros : ℕ
  pub signals : ℕ
  pub chances : ℕ
  pub values : ℕ

abbrev pub one : Bool → ℕ
one b = cond b 1 0

abbrev pub attempted : ℕ → ℕ → ℕ → Counts → Counts
attempted i e m k = record {
  attempts = k.attempts + 1;
  zeros = k.zeros + one (eqb e counter_zero);
  signals = k.signals + one (eqb e signal && eqb m i);
  chances = k.chances;
  values = k.values;
}

abbrev pub chanced : Counts → Counts
chanced k = record {
  attempts = k.attempts;
  zeros = k.zeros;
  signals = k.signals;
  chances = k.chances + 1;
  values = k.values;
}

abbrev pub valued : Counts → Counts
valued k = record {
  attempts = k.attempts;
  zeros = k.zeros;
  signals = k.signals;
  chances = k.chances;
  values = k.values + 1;
}

-- P holds at each leaf, of what the leaf says and of the counts on the way to it
abbrev pub Leaves : {A : Type 0} → ℕ → (A → Counts → Type 0) → Play A → Counts → Type 0
Leaves i P (ends a) k = P a k
Leaves i P (attempts e m t) k = Leaves i P t (attempted i e m k)
Leaves i P (ask_chance f) k = (c : Float) → Leaves i P (f c) (chanced k)
Leaves i P (ask_uniform low high f) k = (c : Float) → Leaves i P (f c) (valued k)
Leaves i P (ask_outside f) k = (c : Float) → Leaves i P (f c) (valued k)

pub leaves_then : {A B : Type 0} (i : ℕ) (P : A → Counts → Type 0) (Q : B → Counts → Type 0) (t : Play A) (f : A → Play B)
    → ((a : A) (k : Counts) → P a k → Leaves i Q (f a) k)
    → (k : Counts) → Leaves i P t k → Leaves i Q (then t f) k
leaves_then i P Q (ends a) f h k l = h a k l
leaves_then i P Q (attempts e m t) f h k l = leaves_then i P Q t f h (attempted i e m k) l
leaves_then i P Q (ask_chance g) f h k l = λ c. leaves_then i P Q (g c) f h (chanced k) (l c)
leaves_then i P Q (ask_uniform low high g) f h k l = λ c. leaves_then i P Q (g c) f h (valued k) (l c)
leaves_then i P Q (ask_outside g) f h k l = λ c. leaves_then i P Q (g c) f h (valued k) (l c)

pub leaves_map : {A : Type 0} (i : ℕ) (P Q : A → Counts → Type 0) (t : Play A)
    → ((a : A) (k : Counts) → P a k → Q a k) → (k : Counts) → Leaves i P t k → Leaves i Q t k
leaves_map i P Q (ends a) h k l = h a k l
leaves_map i P Q (attempts e m t) h k l = leaves_map i P Q t h (attempted i e m k) l
leaves_map i P Q (ask_chance g) h k l = λ c. leaves_map i P Q (g c) h (chanced k) (l c)
leaves_map i P Q (ask_uniform low high g) h k l = λ c. leaves_map i P Q (g c) h (valued k) (l c)
leaves_map i P Q (ask_outside g) h k l = λ c. leaves_map i P Q (g c) h (valued k) (l c)

-- ---- What words can serve: Uniform values within valid bounds, and nothing drawn outside.
pub record Bounds (low high : Float) : Type 0 where
  pub valid : valid_uniform low high ≡ true
  pub low_fits : T (fits binary64 low)

abbrev pub Served : {A : Type 0} → Play A → Type 0
Served (ends a) = Unit
Served (attempts e m t) = Served t
Served (ask_chance k) = (c : Float) → Served (k c)
Served (ask_uniform low high k) = Bounds low high × ((c : Float) → Served (k c))
Served (ask_outside k) = ⊥

pub served_then : {A B : Type 0} (t : Play A) (f : A → Play B) → Served t → ((a : A) → Served (f a)) → Served (then t f)
served_then (ends a) f h g = g a
served_then (attempts e m t) f h g = served_then t f h g
served_then (ask_chance k) f h g = λ c. served_then (k c) f (h c) g
served_then (ask_uniform low high k) f h g = (h.0, λ c. served_then (k c) f (h.1 c) g)
served_then (ask_outside k) f h g = absurd h

-- of a distribution, and of a state's row: the distributions that the steps sample
abbrev pub TypeServed : DistType → Type 0
TypeServed Absent = Unit
TypeServed (Uniform low high) = Bounds low high
TypeServed Outside = ⊥

pub record RowServed (row : List ℕ) : Type 0 where
  pub timeout : has_timeout row ≡ true → TypeServed (dist_at row timeout).dist
  pub duration : has_duration row ≡ true → TypeServed (dist_at row duration).dist
  pub limit : has_limit row ≡ true → TypeServed (dist_at row limit).dist
  pub counter_a_lem : eqb (get_or row counter_a 0) 0 ≡ false → TypeServed (dist_at row (counter_a + 2)).dist
  pub counter_b_lem : eqb (get_or row counter_b 0) 0 ≡ false → TypeServed (dist_at row (counter_b + 2)).dist

-- ---- A step is a play: at every source over places it gives what the source makes of one tree. `view` reads the answer as the
-- step's own type has it; Post says what each way down costs. `Sound` is what has to hold of the tables for the questions to be such as
-- words can serve.
pub record Plays {A X : Type 0} (Sound : Type 0) (view : Drawn Place A → X) (Post : ℕ → A → Counts → Counts → Type 0)
    (f : Source Place → Place → X) : Type 0 where
  pub play : Play A
  pub same : (D : Source Place) (s : Place) → f D s ≡ view (run D play s)
  pub cost : (i : ℕ) (k : Counts) → Leaves i (λ a. Post i a k) play k
  pub served : Sound → Served play

pub plays_end : {A X : Type 0} (Sound : Type 0) (view : Drawn Place A → X) (Post : ℕ → A → Counts → Counts → Type 0)
    (f : Source Place → Place → X) (a : A) → ((D : Source Place) (s : Place) → f D s ≡ view (got a s))
    → ((i : ℕ) (k : Counts) → Post i a k k) → Plays Sound view Post f
plays_end Sound view Post f a h c = record { play = ends a; same = h; cost = c; served = λ s. tt }

pub plays_cond : {A X : Type 0} (Sound : Type 0) (view : Drawn Place A → X) (Post : ℕ → A → Counts → Counts → Type 0)
    (f g : Source Place → Place → X) (b : Bool)
    → (b ≡ true → Plays Sound view Post f) → (b ≡ false → Plays Sound view Post g)
    → Plays Sound view Post (λ D s. cond b (f D s) (g D s))
plays_cond Sound view Post f g true p q = p refl
plays_cond Sound view Post f g false p q = q refl

pub plays_weaken : {A X : Type 0} (Sound : Type 0) (view : Drawn Place A → X) (Post Post' : ℕ → A → Counts → Counts → Type 0)
    (f : Source Place → Place → X) → ((i : ℕ) (a : A) (k k' : Counts) → Post i a k k' → Post' i a k k')
    → Plays Sound view Post f → Plays Sound view Post' f
plays_weaken Sound view Post Post' f h p = record {
  play = p.play;
  same = p.same;
  cost = λ i k. leaves_map i (λ a. Post i a k) (λ a. Post' i a k) p.play (λ a. h i a k) k (p.cost i k);
  served = p.served;
}

-- What goes on from the answer of a play, by cases of it: a refusal is passed on. `g` may know the place from before the play, as
-- the steps' records do, but nothing may hang on it.
pub plays_on : {A B X Y : Type 0} (Sound : Type 0) (view : Drawn Place A → X) (Post : ℕ → A → Counts → Counts → Type 0)
    (view' : Drawn Place B → Y) (Mid : A → ℕ → B → Counts → Counts → Type 0) (Post' : ℕ → B → Counts → Counts → Type 0)
    (f : Source Place → Place → X) (g : Source Place → Place → X → Y) (h : A → Source Place → Place → Y)
    → Plays Sound view Post f
    → ((D : Source Place) (n : ℕ) (s₀ s : Place) → g D s₀ (view (no n s)) ≡ view' (no n s))
    → ((D : Source Place) (a : A) (s₀ s : Place) → g D s₀ (view (got a s)) ≡ h a D s)
    → ((a : A) → Plays Sound view' (Mid a) (h a))
    → ((i : ℕ) (a : A) (b : B) (k k' k'' : Counts) → Post i a k k' → Mid a i b k' k'' → Post' i b k k'')
    → Plays Sound view' Post' (λ D s. g D s (f D s))
plays_on {A} {B} {X} {Y} Sound view Post view' Mid Post' f g h p r e q j = record {
  play = then p.play (λ a. (q a).play);
  same = λ D s.
      ap (g D s) (p.same D s) ∙ (go D s (run D p.play s)
      ∙ sym (ap view' (run_then D p.play (λ a. (q a).play) s)));
  cost = λ i k.
      leaves_then i (λ a. Post i a k) (λ b. Post' i b k) p.play (λ a. (q a).play)
      (λ a k' h. leaves_map i (λ b. Mid a i b k') (λ b. Post' i b k) (q a).play (λ b k'' m. j i a b k k' k'' h m) k' ((q a).cost i k'))
      k (p.cost i k);
  served = λ s. served_then p.play (λ a. (q a).play) (p.served s) (λ a. (q a).served s);
}
  where
    go : (D : Source Place) (s₀ : Place) (d : Drawn Place A)
        → g D s₀ (view d) ≡ view' (after d (λ a s. run D (q a).play s))
    go D s₀ (no n s) = r D n s₀ s
    go D s₀ (got a s) = e D a s₀ s ∙ (q a).same D s

pub plays_then : {A B X Y : Type 0} (Sound : Type 0) (view : Drawn Place A → X) (Post : ℕ → A → Counts → Counts → Type 0)
    (view' : Drawn Place B → Y) (Mid : A → ℕ → B → Counts → Counts → Type 0) (Post' : ℕ → B → Counts → Counts → Type 0)
    (f : Source Place → Place → X) (g : Source Place → X → Y)
    → Plays Sound view Post f
    → ((D : Source Place) (n : ℕ) (s : Place) → g D (view (no n s)) ≡ view' (no n s))
    → ((a : A) → Plays Sound view' (Mid a) (λ D s. g D (view (got a s))))
    → ((i : ℕ) (a : A) (b : B) (k k' k'' : Counts) → Post i a k k' → Mid a i b k' k'' → Post' i b k k'')
    → Plays Sound view' Post' (λ D s. g D (f D s))
plays_then Sound view Post view' Mid Post' f g p r q j =
    plays_on Sound view Post view' Mid Post' f (λ D s₀. g D) (λ a D s. g D (view (got a s))) p (λ D n s₀ s. r D n s)
    (λ D a s₀ s. refl) q j
