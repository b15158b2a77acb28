-- A batch that draws from words (document 02, job 4), beside the two-tape batch. Accepted, it is the two-tape batch on the tapes worked
-- out, which are used up; 16 is given exactly where the two-tape batch gives it on them; 17 is never given; 24 is given exactly where
-- the tables pass their checks and draw outside; every other refusal is the two-tape batch's, on all tapes. The
-- words that it reports are those that it needs. Assumes nothing.
use Rattle.std.specs.Prelude.{ℕ, ◌*◌, ◌≤◌, ◌<◌, Bool, true, false, cond, List, [], ◌++◌, ◌≡◌, refl, eqb, ltb, Float, length}
use Rattle.std.proofs.Math.Decide.{ℕ_discrete}
use Rattle.std.proofs.Common.{arith, append-nil, ◌∙◌, ne_eqb}
use Rattle.std.proofs.Math.Path.{sym, ap}
use Rattle.machine.specs.Source.{Source, tapes}
use Rattle.machine.specs.Words.{words}
use Rattle.machine.specs.declared.source.Place.{Place}
use Rattle.rows.specs.First.{or_else}
use Rattle.tables.specs.Machine.{tables_refusal}
use Rattle.outside.specs.Outside.{draws_outside}
use Rattle.steps.specs.Events.{Tables}
use Rattle.steps.specs.Framework.{rows_in, fits_tables, events_fit, trigger_events, Batch, refused, concluded, batch_refusal, batch}
use Rattle.steps.specs.Runs.{none_of}
use Rattle.steps.proofs.Refusals.{tables_most, checks_most}
use Rattle.steps.specs.Play.Laws.{Given}
use Rattle.steps.specs.Words.{on_words, outside_refused, batch_on, BatchWords, batch_in_words, batch_words}
use Rattle.steps.specs.Words.Sound.{sound}
use Rattle.steps.proofs.Words.Tapes.{used_up, batch_tapes, batch_on_tapes, batch_stops_16}
use Rattle.steps.proofs.Words.Taken.{batch_takes_most, batch_same_within}
use Rattle.steps.proofs.Words.Calls.{Ends, by-24, by-checks, by-16, accepts, ends, passes_outside, is_outside, not_outside, used_most, used_same}
use Rattle.steps.specs.declared.AnswerWords.{AnswerWords}
use Rattle.steps.specs.declared.Framework.{Framework}

-- refused: its number, the framework and the output as they were, no words taken
abbrev pub refused_in_words : Framework → List ℕ → ℕ → BatchWords
refused_in_words fw out n = record { answer = record { refusal = n; actions = 0; words_used = 0; framework = fw }; out = out }

-- accepted, as the two-tape batch answers: the draws used are all of those given
abbrev pub accepted_on : Given → BatchWords → Batch
accepted_on g b = record {
  answer = record {
    refusal = 0;
    actions = b.answer.actions;
    chance_used = length g.chances;
    value_used = length g.values;
    framework = b.answer.framework;
  };
  out = b.out;
}

abbrev refusal_of : Batch → ℕ
refusal_of b = b.answer.refusal

-- ---- the checks
-- what those of the tables give
abbrev pub tables_answer : Tables → ℕ
tables_answer T = tables_refusal T.machines T.states T.transitions

-- all of them give the numbers of the tables, then 18, 19 and 20: neither 16 nor 17
batch_checks : (fw : Framework) (T : Tables) (es out : List ℕ) (n : ℕ) → batch_refusal fw T es out ≡ n → (16 ≤ n) → (n ≤ 17) → ⊥
unfolding batch_refusal or_else
batch_checks fw T es out n =
    by (eqb (tables_answer T) 0) (fits_tables T fw) (events_fit es) (ltb (length out) (6 * rows_in T.machines))
    (tables_most T.machines T.states T.transitions)
  where
    by : (a b c d : Bool) → tables_answer T ≤ 15 → cond a (cond b (cond c (cond d 20 0) 19) 18) (tables_answer T) ≡ n → (16 ≤ n) → (n ≤ 17) → ⊥
    by true true true true m e l h = omega arith
    by true true true false m e l h = omega arith
    by true true false d m e l h = omega arith
    by true false c d m e l h = omega arith
    by false b c d m e l h = omega (arith, m, e, l)

-- they refuse a batch whatever it draws from
checks_refuse : (fw : Framework) (T : Tables) (time : ℕ) (es : List ℕ) (D : Source Place) (out : List ℕ)
    → (batch_refusal fw T es out ≡ 0 → ⊥) → batch fw T time es D out ≡ refused fw out (batch_refusal fw T es out)
unfolding batch
checks_refuse fw T time es D out h = rw (ne_eqb (batch_refusal fw T es out) 0 h)

tables_pass : (fw : Framework) (T : Tables) (es out : List ℕ) → batch_refusal fw T es out ≡ 0 → tables_answer T ≡ 0
unfolding batch_refusal
tables_pass fw T es out e = (none_of _ _ e).0

module _ (fw : Framework) (T : Tables) (time : ℕ) (es ws out : List ℕ) where
  -- the answer on words, the tapes worked out, and the two-tape batch on them
  abbrev pub answer : AnswerWords
  answer = (batch_words fw T time es ws out).answer

  abbrev pub given : Given
  given = batch_tapes T time es fw ws

  abbrev pub on_given : Batch
  on_given = batch fw T time es (tapes given.chances given.values) out

  -- the four ways to end
  abbrev Ending : Type 0
  Ending =
      Ends (concluded fw out) (batch_refusal fw T es out) (outside_refused (tables_answer T) T) (used_up given)
      (batch_on fw T time es (on_words ws) out) on_given

  ending : Ending
  unfolding batch_on batch
  ending =
      ends (concluded fw out) (batch_refusal fw T es out) (outside_refused (tables_answer T) T) (used_up given)
      (trigger_events T (words ws) time es fw) (trigger_events T (tapes given.chances given.values) time es fw)
      (λ o c.
      let passed = tables_pass fw T es out c in
      let s = sound T passed (not_outside (tables_answer T) T o passed) in
      (batch_on_tapes T time es fw s ws, batch_stops_16 T time es fw s ws))

  -- what its answer says in each case
  number : {n : ℕ} → batch_on fw T time es (on_words ws) out ≡ refused fw out n → answer.refusal ≡ n
  number e = ap refusal_of e

  differs : {n m : ℕ} → (n ≡ m → ⊥) → batch_on fw T time es (on_words ws) out ≡ refused fw out n → answer.refusal ≡ m → ⊥
  differs h e r = h (sym (number e) ∙ r)

  -- (a) An accepted batch: the two-tape batch on the tapes worked out is accepted too, with the same framework, rows and output, and
  -- uses both tapes up.
  pub batch_accepted : answer.refusal ≡ 0 → on_given ≡ accepted_on given (batch_words fw T time es ws out)
  batch_accepted r = by ending
    where
      by : Ending → on_given ≡ accepted_on given (batch_words fw T time es ws out)
      by (by-24 o e) = absurd (differs (λ z. omega (arith, z)) e r)
      by (by-checks o n e f) = absurd (differs n e r)
      by (by-16 o c e f) = absurd (differs (λ z. omega (arith, z)) e r)
      by (accepts o c x e f) = rw (e, f)

  -- (b) Where 24 is not given, 16 is given exactly if the two-tape batch gives 16 on the tapes worked out, and that leaves framework and
  -- output as they were.
  pub batch_16 : (answer.refusal ≡ 24 → ⊥)
      → (answer.refusal ≡ 16 → on_given ≡ refused fw out 16) × (on_given.answer.refusal ≡ 16 → answer.refusal ≡ 16)
  batch_16 h = by ending
    where
      by : Ending → (answer.refusal ≡ 16 → on_given ≡ refused fw out 16) × (on_given.answer.refusal ≡ 16 → answer.refusal ≡ 16)
      by (by-24 o e) = absurd (h (number e))
      by (by-checks o n e f) = (
        λ r. f ∙ ap (refused fw out) (sym (number e) ∙ r),
        λ r. number e ∙ (sym (ap refusal_of f) ∙ r),
      )
      by (by-16 o c e f) = ((λ r. f), λ r. number e)
      by (accepts o c x e f) = (
        λ r. absurd (let z = sym r ∙ ap refusal_of e in omega (arith, z)),
        λ r. absurd (let z = sym r ∙ ap refusal_of f in omega (arith, z)),
      )

  -- (c) Every refusal but 16 and 24 is the two-tape batch's, whatever its tapes.
  pub batch_other : (answer.refusal ≡ 0 → ⊥) → (answer.refusal ≡ 16 → ⊥) → (answer.refusal ≡ 24 → ⊥)
      → (chances values : List Float) → batch fw T time es (tapes chances values) out ≡ refused fw out answer.refusal
  batch_other z n m chances values = by ending
    where
      by : Ending → batch fw T time es (tapes chances values) out ≡ refused fw out answer.refusal
      by (by-24 o e) = absurd (m (number e))
      by (by-checks o c e f) =
          checks_refuse fw T time es (tapes chances values) out c ∙ ap (refused fw out) (sym (number e))
      by (by-16 o c e f) = absurd (n (number e))
      by (accepts o c x e f) = absurd (z (ap refusal_of e))

  -- And where 24 is not given, what the checks of the two-tape batch refuse is refused with their number, and leaves framework and output.
  pub batch_checked : (answer.refusal ≡ 24 → ⊥) → (batch_refusal fw T es out ≡ 0 → ⊥)
      → batch_words fw T time es ws out ≡ refused_in_words fw out (batch_refusal fw T es out)
  batch_checked h n = by ending
    where
      by : Ending → batch_words fw T time es ws out ≡ refused_in_words fw out (batch_refusal fw T es out)
      by (by-24 o e) = absurd (h (number e))
      by (by-checks o c e f) = ap batch_in_words e
      by (by-16 o c e f) = absurd (n c)
      by (accepts o c x e f) = absurd (n c)

  -- (d) 17 is never given.
  pub batch_never_17 : answer.refusal ≡ 17 → ⊥
  batch_never_17 r = by ending
    where
      by : Ending → ⊥
      by (by-24 o e) = differs (λ z. omega (arith, z)) e r
      by (by-checks o c e f) = batch_checks fw T es out 17 (sym (number e) ∙ r) (omega arith) (omega arith)
      by (by-16 o c e f) = differs (λ z. omega (arith, z)) e r
      by (accepts o c x e f) = let z = sym r ∙ ap refusal_of e in omega (arith, z)

  -- (e) 24 is given exactly where the tables pass their checks and draw outside.
  pub batch_24 : (answer.refusal ≡ 24 → (tables_answer T ≡ 0) × (draws_outside T.machines T.states ≡ true))
      × (tables_answer T ≡ 0 → draws_outside T.machines T.states ≡ true → batch_words fw T time es ws out ≡ refused_in_words fw out 24)
  unfolding batch_on
  batch_24 = ((λ r. by r ending), λ p d. rw (is_outside (tables_answer T) T p d))
    where
      by : answer.refusal ≡ 24 → Ending → (tables_answer T ≡ 0) × (draws_outside T.machines T.states ≡ true)
      by r (by-24 o e) = passes_outside (tables_answer T) T o
      by r (by-checks o c e f) =
          absurd (let m = checks_most fw T es out in let z = sym (number e) ∙ r in omega (arith, m, z))
      by r (by-16 o c e f) = absurd (differs (λ z. omega (arith, z)) e r)
      by r (accepts o c x e f) = absurd (let z = sym r ∙ ap refusal_of e in omega (arith, z))

  -- A refused batch leaves the framework and the output as they were, and takes no words.
  pub batch_refused : (answer.refusal ≡ 0 → ⊥) → batch_words fw T time es ws out ≡ refused_in_words fw out answer.refusal
  batch_refused n = by ending
    where
      whole : {m : ℕ} → batch_on fw T time es (on_words ws) out ≡ refused fw out m
          → batch_words fw T time es ws out ≡ refused_in_words fw out answer.refusal
      whole e = ap batch_in_words e ∙ ap (refused_in_words fw out) (sym (number e))

      by : Ending → batch_words fw T time es ws out ≡ refused_in_words fw out answer.refusal
      by (by-24 o e) = whole e
      by (by-checks o c e f) = whole e
      by (by-16 o c e f) = whole e
      by (accepts o c x e f) = absurd (n (ap refusal_of e))

-- ---- (f) The words that a batch reports.
module _ (fw : Framework) (T : Tables) (time : ℕ) (es : List ℕ) where
  -- They are words of the tape.
  pub batch_words_most : (ws out : List ℕ) → (batch_words fw T time es ws out).answer.words_used ≤ length ws
  unfolding batch_on batch
  batch_words_most ws out =
      used_most (concluded fw out) refusal_of (λ b. b.answer.value_used) (λ n. refl) (λ n. refl) (λ x. refl)
      (batch_refusal fw T es out) (outside_refused (tables_answer T) T) (length ws) (trigger_events T (words ws) time es fw) (batch_takes_most T time es fw ws)

  -- Those after them do not matter: an accepted batch that reports no more words than `pre` has is the same whatever follows `pre`.
  pub batch_words_suffice : (pre post post' out : List ℕ) → (batch_words fw T time es (pre ++ post) out).answer.refusal ≡ 0
      → (batch_words fw T time es (pre ++ post) out).answer.words_used ≤ length pre
      → batch_words fw T time es (pre ++ post') out ≡ batch_words fw T time es (pre ++ post) out
  unfolding batch_on batch
  batch_words_suffice pre post post' out r u =
      ap batch_in_words (used_same (concluded fw out) refusal_of (λ b. b.answer.value_used) (λ n. refl) (λ n. refl) (λ x. refl)
      (batch_refusal fw T es out) (outside_refused (tables_answer T) T) (length pre)
      (trigger_events T (words (pre ++ post)) time es fw) (trigger_events T (words (pre ++ post')) time es fw)
      (λ o c.
      let passed = tables_pass fw T es out c in
      batch_stops_16 T time es fw (sound T passed (not_outside (tables_answer T) T o passed)) (pre ++ post))
      (batch_same_within T time es fw pre post post') r u)

  -- None of them can be spared: on fewer the batch is refused as 16.
  pub batch_words_needed : (pre post out : List ℕ) → (batch_words fw T time es (pre ++ post) out).answer.refusal ≡ 0
      → length pre < (batch_words fw T time es (pre ++ post) out).answer.words_used
      → batch_words fw T time es pre out ≡ refused_in_words fw out 16
  batch_words_needed pre post out r u =
      batch_refused fw T time es pre out not-0 ∙ ap (refused_in_words fw out) is-16
    where
      n : ℕ
      n = (batch_words fw T time es pre out).answer.refusal

      -- accepted on `pre` alone it would be the same with `post` after it
      same : n ≡ 0 → batch_words fw T time es (pre ++ post) out ≡ batch_words fw T time es pre out
      same z =
          batch_words_suffice pre [] post out (rw (append-nil pre) z) (rw (append-nil pre) (batch_words_most pre out))
          ∙ ap (λ (l : List ℕ). batch_words fw T time es l out) (append-nil pre)

      not-0 : n ≡ 0 → ⊥
      not-0 z =
          let most = batch_words_most pre out in
          let e = ap (λ (b : BatchWords). b.answer.words_used) (same z) in
          omega (arith, most, e, u)

      not-24 : n ≡ 24 → ⊥
      not-24 z =
          let outside = (batch_24 fw T time es pre out).0 z in
          let e = sym r ∙ ap (λ (b : BatchWords). b.answer.refusal) ((batch_24 fw T time es (pre ++ post) out).1 outside.0 outside.1) in
          omega (arith, e)

      is-16 : n ≡ 16
      is-16 = elim (ℕ_discrete n 16) [
        | yes e ↦ e
        | no e ↦
            (let g = batch_tapes T time es fw (pre ++ post) in
            let a = batch_accepted fw T time es (pre ++ post) out r in
            let b = batch_other fw T time es pre out not-0 e not-24 g.chances g.values in
            absurd (not-0 (ap refusal_of (sym b ∙ a))))
      ]
