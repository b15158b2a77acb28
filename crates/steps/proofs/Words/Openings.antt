-- An opening that draws from words (document 02, job 4), beside the two-tape opening. Accepted, it is the two-tape opening on the tapes
-- worked out, which are used up; 16 is given exactly where the two-tape opening gives it on them; 17 is never given; 24 is given exactly
-- where all checks pass and the tables draw outside; every other refusal is the two-tape opening's, on all tapes.
-- The words that it reports are those that it needs. Assumes nothing.
use Rattle.std.specs.Prelude.{ℕ, ◌≤◌, ◌<◌, true, List, [], ◌++◌, ◌≡◌, refl, eqb, Float, length}
use Rattle.std.proofs.Math.Decide.{ℕ_discrete}
use Rattle.std.proofs.Common.{arith, append-nil, ◌∙◌, ne_eqb}
use Rattle.std.proofs.Math.Path.{sym, ap}
use Rattle.machine.specs.Source.{Source, tapes}
use Rattle.machine.specs.Words.{words}
use Rattle.machine.specs.declared.source.Place.{Place}
use Rattle.rows.specs.First.{or_else}
use Rattle.tables.specs.Framework.{is_fraction, fractions_refusal}
use Rattle.tables.specs.Machine.{tables_refusal}
use Rattle.outside.specs.Outside.{draws_outside}
use Rattle.steps.specs.Events.{Tables, stop}
use Rattle.steps.specs.Framework.{open_run, opened_by, open_refusal, opening, no_framework}
use Rattle.steps.specs.Runs.{either, none_of}
use Rattle.steps.proofs.Refusals.{tables_most}
use Rattle.steps.specs.Play.Laws.{Given}
use Rattle.steps.specs.Words.{on_words, outside_refused, opening_on, opened_in_words, opening_words}
use Rattle.steps.specs.Words.Sound.{sound}
use Rattle.steps.proofs.Words.Tapes.{used_up, opening_tapes, opening_on_tapes, opening_stops_16}
use Rattle.steps.proofs.Words.Taken.{opening_takes_most, opening_same_within}
use Rattle.steps.proofs.Words.Calls.{Ends, by-24, by-checks, by-16, accepts, ends, passes_outside, is_outside, not_outside, used_most, used_same}
use Rattle.steps.specs.declared.Opened.{Opened}
use Rattle.steps.specs.declared.OpenedWords.{OpenedWords}

-- refused: its number, a framework with no machines, no words taken
abbrev pub refused_in_words : ℕ → OpenedWords
refused_in_words n = record { refusal = n; words_used = 0; framework = no_framework }

-- accepted, as the two-tape opening answers: the draws used are all of those given
abbrev pub accepted_on : Given → OpenedWords → Opened
accepted_on g o = record {
  refusal = 0;
  chance_used = length g.chances;
  value_used = length g.values;
  framework = o.framework;
}

abbrev refusal_of : Opened → ℕ
refusal_of o = o.refusal

-- ---- the checks
-- they give 1, 2, then the numbers of the tables
checks_most : (T : Tables) (padding blocking : Float) → open_refusal T padding blocking ≤ 15
unfolding or_else fractions_refusal
checks_most T padding blocking =
    either (λ z. z ≤ 15) (eqb (fractions_refusal padding blocking) 0) (tables_refusal T.machines T.states T.transitions)
    (fractions_refusal padding blocking) (tables_most T.machines T.states T.transitions)
    (either (λ z. z ≤ 15) (is_fraction padding) _ _ (either (λ z. z ≤ 15) (is_fraction blocking) 0 2 (omega arith) (omega arith)) (omega arith))

-- they refuse an opening whatever it draws from
checks_refuse : (T : Tables) (padding blocking : Float) (time : ℕ) (D : Source Place)
    → (open_refusal T padding blocking ≡ 0 → ⊥) → opening T padding blocking time D ≡ opened_by (stop (open_refusal T padding blocking))
unfolding opening
checks_refuse T padding blocking time D h = rw (ne_eqb (open_refusal T padding blocking) 0 h)

-- the chance tape is not read: the opening that a sender links lends none
pub opening_takes_no_chance : (T : Tables) (padding blocking : Float) (time : ℕ) (chances values : List Float)
    → opening T padding blocking time (tapes chances values) ≡ opening T padding blocking time (tapes [] values)
unfolding opening
opening_takes_no_chance T padding blocking time chances values = refl

module _ (T : Tables) (padding blocking : Float) (time : ℕ) (ws : List ℕ) where
  -- the answer on words, the tapes worked out, and the two-tape opening on them
  abbrev pub answer : OpenedWords
  answer = opening_words T padding blocking time ws

  abbrev pub given : Given
  given = opening_tapes T padding blocking time ws

  abbrev pub on_given : Opened
  on_given = opening T padding blocking time (tapes given.chances given.values)

  -- what the checks give: of the fractions, then of the tables
  abbrev pub checks : ℕ
  checks = open_refusal T padding blocking

  -- the four ways to end
  abbrev Ending : Type 0
  Ending =
      Ends opened_by checks (outside_refused checks T) (used_up given) (opening_on T padding blocking time (on_words ws)) on_given

  ending : Ending
  unfolding opening_on opening
  ending =
      ends opened_by checks (outside_refused checks T) (used_up given) (open_run T padding blocking time (words ws))
      (open_run T padding blocking time (tapes given.chances given.values))
      (λ o c.
      let s = sound T (none_of _ _ c).1 (not_outside checks T o c) in
      (opening_on_tapes T padding blocking time s ws, opening_stops_16 T padding blocking time s ws))

  -- what its answer says in each case
  number : {n : ℕ} → opening_on T padding blocking time (on_words ws) ≡ opened_by (stop n) → answer.refusal ≡ n
  number e = ap refusal_of e

  differs : {n m : ℕ} → (n ≡ m → ⊥) → opening_on T padding blocking time (on_words ws) ≡ opened_by (stop n) → answer.refusal ≡ m → ⊥
  differs h e r = h (sym (number e) ∙ r)

  -- (a) An accepted opening: the two-tape opening on the tapes worked out is accepted too, with the same framework, and uses both tapes up.
  pub opening_accepted : answer.refusal ≡ 0 → on_given ≡ accepted_on given answer
  opening_accepted r = by ending
    where
      by : Ending → on_given ≡ accepted_on given answer
      by (by-24 o e) = absurd (differs (λ z. omega (arith, z)) e r)
      by (by-checks o n e f) = absurd (differs n e r)
      by (by-16 o c e f) = absurd (differs (λ z. omega (arith, z)) e r)
      by (accepts o c x e f) = rw (e, f)

  -- (b) Where 24 is not given, 16 is given exactly if the two-tape opening gives 16 on the tapes worked out.
  pub opening_16 : (answer.refusal ≡ 24 → ⊥)
      → (answer.refusal ≡ 16 → on_given ≡ opened_by (stop 16)) × (on_given.refusal ≡ 16 → answer.refusal ≡ 16)
  opening_16 h = by ending
    where
      by : Ending → (answer.refusal ≡ 16 → on_given ≡ opened_by (stop 16)) × (on_given.refusal ≡ 16 → answer.refusal ≡ 16)
      by (by-24 o e) = absurd (h (number e))
      by (by-checks o n e f) = (
        λ r. f ∙ ap (λ (k : ℕ). opened_by (stop k)) (sym (number e) ∙ r),
        λ r. number e ∙ (sym (ap refusal_of f) ∙ r),
      )
      by (by-16 o c e f) = ((λ r. f), λ r. number e)
      by (accepts o c x e f) = (
        λ r. absurd (let z = sym r ∙ ap refusal_of e in omega (arith, z)),
        λ r. absurd (let z = sym r ∙ ap refusal_of f in omega (arith, z)),
      )

  -- (c) Every refusal but 16 and 24 is the two-tape opening's, whatever its tapes.
  pub opening_other : (answer.refusal ≡ 0 → ⊥) → (answer.refusal ≡ 16 → ⊥) → (answer.refusal ≡ 24 → ⊥)
      → (chances values : List Float) → opening T padding blocking time (tapes chances values) ≡ opened_by (stop answer.refusal)
  opening_other z n m chances values = by ending
    where
      by : Ending → opening T padding blocking time (tapes chances values) ≡ opened_by (stop answer.refusal)
      by (by-24 o e) = absurd (m (number e))
      by (by-checks o c e f) =
          checks_refuse T padding blocking time (tapes chances values) c ∙ ap (λ (k : ℕ). opened_by (stop k)) (sym (number e))
      by (by-16 o c e f) = absurd (n (number e))
      by (accepts o c x e f) = absurd (z (ap refusal_of e))

  -- And what the checks of the two-tape opening refuse is refused with their number: 24 comes after all of them.
  pub opening_checked : (checks ≡ 0 → ⊥) → answer ≡ refused_in_words checks
  opening_checked n = by ending
    where
      by : Ending → answer ≡ refused_in_words checks
      by (by-24 o e) = absurd (n (passes_outside checks T o).0)
      by (by-checks o c e f) = ap opened_in_words e
      by (by-16 o c e f) = absurd (n c)
      by (accepts o c x e f) = absurd (n c)

  -- (d) 17 is never given.
  pub opening_never_17 : answer.refusal ≡ 17 → ⊥
  opening_never_17 r = by ending
    where
      by : Ending → ⊥
      by (by-24 o e) = differs (λ z. omega (arith, z)) e r
      by (by-checks o c e f) =
          let m = checks_most T padding blocking in
          let z = sym (number e) ∙ r in
          omega (arith, m, z)
      by (by-16 o c e f) = differs (λ z. omega (arith, z)) e r
      by (accepts o c x e f) = let z = sym r ∙ ap refusal_of e in omega (arith, z)

  -- (e) 24 is given exactly where all checks pass and the tables draw outside.
  pub opening_24 : (answer.refusal ≡ 24 → (checks ≡ 0) × (draws_outside T.machines T.states ≡ true))
      × (checks ≡ 0 → draws_outside T.machines T.states ≡ true → answer ≡ refused_in_words 24)
  unfolding opening_on
  opening_24 = ((λ r. by r ending), λ p d. rw (is_outside checks T p d))
    where
      by : answer.refusal ≡ 24 → Ending → (checks ≡ 0) × (draws_outside T.machines T.states ≡ true)
      by r (by-24 o e) = passes_outside checks T o
      by r (by-checks o c e f) =
          absurd (let m = checks_most T padding blocking in let z = sym (number e) ∙ r in omega (arith, m, z))
      by r (by-16 o c e f) = absurd (differs (λ z. omega (arith, z)) e r)
      by r (accepts o c x e f) = absurd (let z = sym r ∙ ap refusal_of e in omega (arith, z))

  -- A refused opening gives a framework with no machines, and takes no words.
  pub opening_refused : (answer.refusal ≡ 0 → ⊥) → answer ≡ refused_in_words answer.refusal
  opening_refused n = by ending
    where
      whole : {m : ℕ} → opening_on T padding blocking time (on_words ws) ≡ opened_by (stop m) → answer ≡ refused_in_words answer.refusal
      whole e = ap opened_in_words e ∙ ap refused_in_words (sym (number e))

      by : Ending → answer ≡ refused_in_words answer.refusal
      by (by-24 o e) = whole e
      by (by-checks o c e f) = whole e
      by (by-16 o c e f) = whole e
      by (accepts o c x e f) = absurd (n (ap refusal_of e))

-- ---- (f) The words that an opening reports.
module _ (T : Tables) (padding blocking : Float) (time : ℕ) where
  -- They are words of the tape.
  pub opening_words_most : (ws : List ℕ) → (opening_words T padding blocking time ws).words_used ≤ length ws
  unfolding opening_on opening
  opening_words_most ws =
      used_most opened_by refusal_of (λ o. o.value_used) (λ n. refl) (λ n. refl) (λ x. refl) (open_refusal T padding blocking)
      (outside_refused (open_refusal T padding blocking) T) (length ws) (open_run T padding blocking time (words ws))
      (opening_takes_most T padding blocking time ws)

  -- Those after them do not matter: an accepted opening that reports no more words than `pre` has is the same whatever follows `pre`.
  pub opening_words_suffice : (pre post post' : List ℕ) → (opening_words T padding blocking time (pre ++ post)).refusal ≡ 0
      → (opening_words T padding blocking time (pre ++ post)).words_used ≤ length pre
      → opening_words T padding blocking time (pre ++ post') ≡ opening_words T padding blocking time (pre ++ post)
  unfolding opening_on opening
  opening_words_suffice pre post post' r u =
      ap opened_in_words (used_same opened_by refusal_of (λ o. o.value_used) (λ n. refl) (λ n. refl) (λ x. refl)
      (open_refusal T padding blocking) (outside_refused (open_refusal T padding blocking) T) (length pre)
      (open_run T padding blocking time (words (pre ++ post))) (open_run T padding blocking time (words (pre ++ post')))
      (λ o c. opening_stops_16 T padding blocking time
      (sound T (none_of _ _ c).1 (not_outside (open_refusal T padding blocking) T o c)) (pre ++ post))
      (opening_same_within T padding blocking time pre post post') r u)

  -- None of them can be spared: on fewer the opening is refused as 16.
  pub opening_words_needed : (pre post : List ℕ) → (opening_words T padding blocking time (pre ++ post)).refusal ≡ 0
      → length pre < (opening_words T padding blocking time (pre ++ post)).words_used
      → opening_words T padding blocking time pre ≡ refused_in_words 16
  opening_words_needed pre post r u =
      opening_refused T padding blocking time pre not-0 ∙ ap refused_in_words is-16
    where
      n : ℕ
      n = (opening_words T padding blocking time pre).refusal

      -- accepted on `pre` alone it would be the same with `post` after it
      same : n ≡ 0 → opening_words T padding blocking time (pre ++ post) ≡ opening_words T padding blocking time pre
      same z =
          opening_words_suffice pre [] post (rw (append-nil pre) z) (rw (append-nil pre) (opening_words_most pre))
          ∙ ap (λ (l : List ℕ). opening_words T padding blocking time l) (append-nil pre)

      not-0 : n ≡ 0 → ⊥
      not-0 z =
          let most = opening_words_most pre in
          let e = ap (λ (o : OpenedWords). o.words_used) (same z) in
          omega (arith, most, e, u)

      not-24 : n ≡ 24 → ⊥
      not-24 z =
          let outside = (opening_24 T padding blocking time pre).0 z in
          let e = sym r ∙ ap (λ (o : OpenedWords). o.refusal) ((opening_24 T padding blocking time (pre ++ post)).1 outside.0 outside.1) in
          omega (arith, e)

      is-16 : n ≡ 16
      is-16 = elim (ℕ_discrete n 16) [
        | yes e ↦ e
        | no e ↦
            (let g = opening_tapes T padding blocking time (pre ++ post) in
            let a = opening_accepted T padding blocking time (pre ++ post) r in
            let b = opening_other T padding blocking time pre not-0 e not-24 g.chances g.values in
            absurd (not-0 (ap refusal_of (sym b ∙ a))))
      ]
