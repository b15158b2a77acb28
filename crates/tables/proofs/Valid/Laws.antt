-- The answer of the tables is that of document 01: `answered` says of each number where its condition is met first, and
-- `zero_valid` and `valid_zero` that 0 is answered exactly for `Valid` tables. Assumes nothing.
use Prim.Native.Nat.{ℕ, ◌+◌, ◌*◌, ◌/◌, ◌%◌, ◌≤◌, ◌<◌}
use Rattle.std.proofs.Common.{zero-add, arith, sym, ◌∙◌, subst, inl, inr}
use Rattle.std.specs.Prelude.{◌≡◌, List, Bool, ◌&&◌, ◌||◌, ◌⊎◌, length, get_or}
use Rattle.std.proofs.Math.Path.{refl}
use Rattle.std.proofs.Math.Bool.{true, false, cond}
use Rattle.std.proofs.Math.Dec.{ltb, leb, eqb}
use Rattle.std.specs.Float.Ieee.{binary32, of_bits}
use borrow.Author.Tests.{leb-true, leb-false, le-leb, lt-leb, ltb-true, ltb-false, le-ltb, eqb-true, eqb-false, eq-eqb, ne_eqb}
use Rattle.machine.specs.Constants.{state_max, machine_max, event_num, machine_words, state_words, transition_words, max_padding_frac, max_blocking_frac, first_state, num_states}
use Rattle.machine.specs.State.{rows_of, first_of, count_of, target_at, probability_at}
use Rattle.dists.specs.Dist.{f64_at}
use Rattle.rows.specs.First.{or_else, first_refusal}
use Rattle.rows.specs.First.Laws.{second, former, Met, none, some, met, all_zero}
use Rattle.rows.specs.Row.{probability_word, is_target, improbable, transition_refusal, seen_before, sum_from, sum_refusal, row_refusal, pair_refusal}
use Rattle.tables.specs.State.{codes_unknown, dists_invalid, events_refusal, state_refusal}
use Rattle.tables.specs.Machine.{beyond_fraction, each_state, states_refusal, machine_refusal, whole_tables, tables_refusal}
use Rattle.tables.specs.Valid.{Fraction, ValidTransition, ValidPair, ValidEvents, ValidState, ValidPlace, state_of, ValidMachine, Whole, Valid, FirstAt}
use Rattle.tables.specs.Valid.{TransitionAnswer, transition-passes, nine, ten, eleven, twelve, PairAnswer, pair-passes, eight, first-transition, thirteen}
use Rattle.tables.specs.Valid.{StateAnswer, state-passes, first-event, fourteen, fifteen, MachineAnswer, machine-passes, four, five, six, seven, first-state, TablesAnswer, tables_pass, three, first-machine}
use Rattle.tables.specs.Valid.Tests.{fraction, no_fraction, of_fraction, probability, no_probability, of_probability, target, of_target, unseen, seen, of_unseen, clash}
use Rattle.tables.specs.Valid.Fields.{known_codes, of_known_codes, valid_dists, of_valid_dists}

-- ---- the first refusal met, of f at i, i + 1, .., k of them
-- with what f's answers say: of 0 that j is good, of any other what `Answer` says
abbrev Scanned : (ℕ → ℕ) → ℕ → ℕ → ℕ → (ℕ → Type 0) → (ℕ → ℕ → Type 0) → Type 0
Scanned f k i to Good Answer =
    ((0 < first_refusal f k i) × FirstAt Good (λ j. Answer j (first_refusal f k i)) i to)
    ⊎ ((first_refusal f k i ≡ 0) × ((j : ℕ) → i ≤ j → j < to → Good j))

scan : (f : ℕ → ℕ) (k i to : ℕ) → i + k ≡ to → (Good : ℕ → Type 0) (Answer : ℕ → ℕ → Type 0) →
    ((j : ℕ) → i ≤ j → f j ≡ 0 → Good j) → ((j : ℕ) → i ≤ j → Answer j (f j)) → Scanned f k i to Good Answer
scan f k i to reach Good Answer good answer = by (met f k i)
  where
    by : Met f k i → Scanned f k i to Good Answer
    by (none e all) = inr (e, λ j h g. good j h (all j h (omega arith)))
    by (some p low high e r all) =
        inl (
          r,
          record {
            place = p;
            low = low;
            high = omega arith;
            before = λ j h g. good j h (all j h g);
            here = subst (λ (m : ℕ). Answer p m) e (answer p low);
          },
        )

-- a refusal that is met first is the answer, whatever comes after
module _ {a : ℕ} (b : ℕ) (r : 0 < a) where
  is-first : or_else a b ≡ a
  is-first = former b (λ e. omega arith)

  above : 0 < or_else a b
  above = subst (λ (m : ℕ). 0 < m) (sym is-first) r

positive : (r : ℕ) → (r ≡ 0 → ⊥) → 0 < r
positive r h = omega arith

-- ---- a transition
module _ (ts : List ℕ) (n first i : ℕ) (from : first ≤ i) where
  transition-answered : TransitionAnswer ts n first i (transition_refusal ts n i (seen_before ts first i))
  unfolding transition_refusal
  transition-answered =
      by (leb 4294967296 (probability_word ts i)) refl (is_target n (target_at ts i)) refl (seen_before ts first i) refl
      (improbable (probability_at ts i)) refl
    where
      by : (a : Bool) → leb 4294967296 (probability_word ts i) ≡ a → (b : Bool) → is_target n (target_at ts i) ≡ b →
          (c : Bool) → seen_before ts first i ≡ c → (d : Bool) → improbable (probability_at ts i) ≡ d →
          TransitionAnswer ts n first i (cond a 9 (cond b (cond c 11 (cond d 12 0)) 10))
      by true p b q c r d s = nine refl (leb-true _ _ p)
      by false p false q c r d s = ten refl (leb-false _ _ p) (λ t. clash (of_target _ _ t) q)
      by false p true q true r d s = eleven refl (leb-false _ _ p) (target _ _ q) (seen ts first i from r)
      by false p true q false r true s =
          twelve refl (leb-false _ _ p) (target _ _ q) (unseen ts first i from r) (no_probability _ s)
      by false p true q false r false s =
          transition-passes refl
          (record { word = leb-false _ _ p; target = target _ _ q; unseen = unseen ts first i from r; probability = probability _ s })

  transition-zero : ValidTransition ts n first i → transition_refusal ts n i (seen_before ts first i) ≡ 0
  unfolding transition_refusal
  transition-zero v =
      rw (lt-leb _ _ v.word, of_target _ _ v.target, of_unseen ts first i from v.unseen, of_probability _ v.probability)

  zero-transition : transition_refusal ts n i (seen_before ts first i) ≡ 0 → ValidTransition ts n first i
  zero-transition e = by transition-answered
    where
      by : TransitionAnswer ts n first i (transition_refusal ts n i (seen_before ts first i)) → ValidTransition ts n first i
      by (transition-passes r v) = v
      by (nine r w) = absurd (omega arith)
      by (ten r w t) = absurd (omega arith)
      by (eleven r w t s) = absurd (omega arith)
      by (twelve r w t s p) = absurd (omega arith)

-- ---- a row
abbrev at : List ℕ → ℕ → ℕ → ℕ → ℕ
at ts n first i = transition_refusal ts n i (seen_before ts first i)

module _ (ts : List ℕ) (n first count : ℕ) where
  row-answered : 0 < count → (first + count) * transition_words ≤ length ts → PairAnswer ts n first count (row_refusal ts n first count)
  unfolding row_refusal sum_refusal
  row-answered more within =
      by
      (scan (at ts n first) count first (first + count) refl (ValidTransition ts n first) (TransitionAnswer ts n first)
      (λ j h e. zero-transition ts n first j h e) (λ j h. transition-answered ts n first j h))
    where
      rest : ℕ
      rest = sum_refusal (sum_from ts first count (of_bits binary32 0))

      by : Scanned (at ts n first) count first (first + count) (ValidTransition ts n first) (TransitionAnswer ts n first) →
          PairAnswer ts n first count (or_else (first_refusal (at ts n first) count first) rest)
      by (inl (r, f)) =
          first-transition (above rest r) within
          (subst
          (λ (m : ℕ). FirstAt (ValidTransition ts n first) (λ i. TransitionAnswer ts n first i m) first (first + count))
          (sym (is-first rest r)) f)
      by (inr (e, all)) =
          subst (λ (m : ℕ). PairAnswer ts n first count m) (sym (second e)) (sum (improbable (sum_from ts first count (of_bits binary32 0))) refl)
        where
          sum : (b : Bool) → improbable (sum_from ts first count (of_bits binary32 0)) ≡ b → PairAnswer ts n first count (cond b 13 0)
          sum true p = thirteen refl more within all (no_probability _ p)
          sum false p = pair-passes refl (inr (record { within = within; transitions = all; sum = probability _ p }))

  pair-answered : PairAnswer ts n first count (pair_refusal ts n first count)
  unfolding pair_refusal
  pair-answered = by (eqb count 0) refl (leb ((first + count) * transition_words) (length ts)) refl
    where
      by : (a : Bool) → eqb count 0 ≡ a → (b : Bool) → leb ((first + count) * transition_words) (length ts) ≡ b →
          PairAnswer ts n first count (cond a 0 (cond b (row_refusal ts n first count) 8))
      by true p b q = pair-passes refl (inl (eqb-true count 0 p))
      by false p true q = row-answered (positive count (eqb-false count 0 p)) (leb-true _ _ q)
      by false p false q = eight refl (positive count (eqb-false count 0 p)) (leb-false _ _ q)

  zero-pair : pair_refusal ts n first count ≡ 0 → ValidPair ts n first count
  zero-pair e = by pair-answered
    where
      by : PairAnswer ts n first count (pair_refusal ts n first count) → ValidPair ts n first count
      by (pair-passes r v) = v
      by (eight r h g) = absurd (omega arith)
      by (first-transition r h f) = absurd (omega arith)
      by (thirteen r m h a s) = absurd (omega arith)

  pair-zero : ValidPair ts n first count → pair_refusal ts n first count ≡ 0
  unfolding pair_refusal row_refusal sum_refusal
  pair-zero (inl h) = rw (eq-eqb count 0 h)
  pair-zero (inr v) = by (eqb count 0)
    where
      passed : row_refusal ts n first count ≡ 0
      passed =
          second (all_zero (at ts n first) count first (λ j h g. transition-zero ts n first j h (v.transitions j h g)))
          ∙ rw (of_probability _ v.sum)

      by : (a : Bool) → cond a 0 (cond (leb ((first + count) * transition_words) (length ts)) (row_refusal ts n first count) 8) ≡ 0
      by true = refl
      by false = rw (le-leb _ _ v.within) passed

-- ---- a state
abbrev on_event : List ℕ → ℕ → List ℕ → ℕ → ℕ
on_event ts n row event = pair_refusal ts n (first_of row event) (count_of row event)

module _ (ts : List ℕ) (n : ℕ) (row : List ℕ) where
  abbrev GoodEvent : ℕ → Type 0
  GoodEvent event = ValidPair ts n (first_of row event) (count_of row event)

  abbrev EventAnswer : ℕ → ℕ → Type 0
  EventAnswer event r = PairAnswer ts n (first_of row event) (count_of row event) r

  state-answered : StateAnswer ts n row (state_refusal ts n row)
  unfolding state_refusal events_refusal
  state-answered =
      by
      (scan (on_event ts n row) event_num 0 event_num refl GoodEvent EventAnswer
      (λ j h e. zero-pair ts n (first_of row j) (count_of row j) e) (λ j h. pair-answered ts n (first_of row j) (count_of row j)))
    where
      rest : ℕ
      rest = cond (codes_unknown row) 14 (cond (dists_invalid row) 15 0)

      by : Scanned (on_event ts n row) event_num 0 event_num GoodEvent EventAnswer →
          StateAnswer ts n row (or_else (first_refusal (on_event ts n row) event_num 0) rest)
      by (inl (r, f)) =
          first-event (above rest r)
          (subst (λ (m : ℕ). FirstAt GoodEvent (λ event. EventAnswer event m) 0 event_num) (sym (is-first rest r)) f)
      by (inr (e, all)) =
          subst (λ (m : ℕ). StateAnswer ts n row m) (sym (second e)) (fields (codes_unknown row) refl (dists_invalid row) refl)
        where
          events : ValidEvents ts n row
          events event h = all event (omega arith) h

          fields : (a : Bool) → codes_unknown row ≡ a → (b : Bool) → dists_invalid row ≡ b → StateAnswer ts n row (cond a 14 (cond b 15 0))
          fields true p b q = fourteen refl events (λ k. clash p (of_known_codes row k))
          fields false p true q = fifteen refl events (known_codes row p) (λ k. clash q (of_valid_dists row k))
          fields false p false q =
              state-passes refl (record { events = events; codes = known_codes row p; dists = valid_dists row q })

  zero-state : state_refusal ts n row ≡ 0 → ValidState ts n row
  zero-state e = by state-answered
    where
      by : StateAnswer ts n row (state_refusal ts n row) → ValidState ts n row
      by (state-passes r v) = v
      by (first-event r f) = absurd (omega arith)
      by (fourteen r h k) = absurd (omega arith)
      by (fifteen r h k d) = absurd (omega arith)

  state-zero : ValidState ts n row → state_refusal ts n row ≡ 0
  unfolding state_refusal events_refusal
  state-zero v =
      second (all_zero (on_event ts n row) event_num 0 (λ j h g. pair-zero ts n (first_of row j) (count_of row j) (v.events j g)))
      ∙ rw (of_known_codes row v.codes, of_valid_dists row v.dists)

-- ---- a machine
module _ (states ts row : List ℕ) where
  abbrev n : ℕ
  n = get_or row num_states 0

  abbrev GoodState : ℕ → Type 0
  GoodState state = ValidState ts n (state_of states row state)

  abbrev AnswerOf : ℕ → ℕ → Type 0
  AnswerOf state r = StateAnswer ts n (state_of states row state) r

  abbrev on_state : ℕ → ℕ
  on_state state = state_refusal ts n (state_of states row state)

  each-answered : Fraction (f64_at row max_padding_frac) → Fraction (f64_at row max_blocking_frac) → ValidPlace states (get_or row first_state 0) n →
      MachineAnswer states ts row (each_state ts n (rows_of state_words states (get_or row first_state 0) n))
  unfolding each_state
  each-answered p b w =
      by
      (scan on_state n 0 n (zero-add n) GoodState AnswerOf (λ j h e. zero-state ts n (state_of states row j) e)
      (λ j h. state-answered ts n (state_of states row j)))
    where
      by : Scanned on_state n 0 n GoodState AnswerOf → MachineAnswer states ts row (first_refusal on_state n 0)
      by (inl (r, f)) = first-state r p b w f
      by (inr (e, all)) = machine-passes e (record { padding = p; blocking = b; place = w; each = λ s h. all s (omega arith) h })

  states-answered : Fraction (f64_at row max_padding_frac) → Fraction (f64_at row max_blocking_frac) →
      MachineAnswer states ts row (states_refusal states ts (get_or row first_state 0) n)
  unfolding states_refusal
  states-answered p b = by (eqb n 0) refl (ltb state_max n) refl (leb ((get_or row first_state 0 + n) * state_words) (length states)) refl
    where
      by : (x : Bool) → eqb n 0 ≡ x → (y : Bool) → ltb state_max n ≡ y →
          (z : Bool) → leb ((get_or row first_state 0 + n) * state_words) (length states) ≡ z →
          MachineAnswer states ts row (cond (x || y) 6 (cond z (each_state ts n (rows_of state_words states (get_or row first_state 0) n)) 7))
      by true x y u z v = six refl p b (inl (eqb-true n 0 x))
      by false x true u z v = six refl p b (inr (ltb-true state_max n u))
      by false x false u false v =
          seven refl p b (positive n (eqb-false n 0 x)) (ltb-false state_max n u) (leb-false _ _ v)
      by false x false u true v =
          each-answered p b (record { some = positive n (eqb-false n 0 x); most = ltb-false state_max n u; within = leb-true _ _ v })

  machine-answered : MachineAnswer states ts row (machine_refusal states ts row)
  unfolding machine_refusal
  machine-answered = by (beyond_fraction (f64_at row max_padding_frac)) refl (beyond_fraction (f64_at row max_blocking_frac)) refl
    where
      by : (x : Bool) → beyond_fraction (f64_at row max_padding_frac) ≡ x → (y : Bool) → beyond_fraction (f64_at row max_blocking_frac) ≡ y →
          MachineAnswer states ts row (cond x 4 (cond y 5 (states_refusal states ts (get_or row first_state 0) n)))
      by true p y q = four refl (no_fraction _ p)
      by false p true q = five refl (fraction _ p) (no_fraction _ q)
      by false p false q = states-answered (fraction _ p) (fraction _ q)

  zero-machine : machine_refusal states ts row ≡ 0 → ValidMachine states ts row
  zero-machine e = by machine-answered
    where
      by : MachineAnswer states ts row (machine_refusal states ts row) → ValidMachine states ts row
      by (machine-passes r v) = v
      by (four r h) = absurd (omega arith)
      by (five r h g) = absurd (omega arith)
      by (six r h g f) = absurd (omega arith)
      by (seven r h g s m l) = absurd (omega arith)
      by (first-state r h g w f) = absurd (omega arith)

  machine-zero : ValidMachine states ts row → machine_refusal states ts row ≡ 0
  unfolding machine_refusal states_refusal each_state
  machine-zero v =
      let some : n ≡ 0 → ⊥ = λ e. omega (arith, v.place.some) in
      rw (
        of_fraction _ v.padding,
        of_fraction _ v.blocking,
        ne_eqb n 0 some,
        le-ltb state_max n v.place.most,
        le-leb _ _ v.place.within,
      )
      (all_zero on_state n 0 (λ j h g. state-zero ts n (state_of states row j) (v.each j (subst (λ (m : ℕ). j < m) (zero-add n) g))))

-- ---- all tables
and_split : (a b : Bool) → (a && b) ≡ true → (a ≡ true) × (b ≡ true)
and_split true b e = (refl, e)
and_split false b e = absurd (clash e refl)

module _ (machines states ts : List ℕ) where
  abbrev many : ℕ
  many = length machines / machine_words

  abbrev machine_of : ℕ → List ℕ
  machine_of i = rows_of machine_words machines i 1

  abbrev on_machine : ℕ → ℕ
  on_machine i = machine_refusal states ts (machine_of i)

  abbrev GoodMachine : ℕ → Type 0
  GoodMachine i = ValidMachine states ts (machine_of i)

  abbrev OnMachine : ℕ → ℕ → Type 0
  OnMachine i r = MachineAnswer states ts (machine_of i) r

  whole : whole_tables machines states ts ≡ true → Whole machines states ts
  unfolding whole_tables
  whole e =
      let a = eqb (length machines % machine_words) 0 in
      let b = eqb (length states % state_words) 0 in
      let c = eqb (length ts % transition_words) 0 in
      let u = and_split (a && b && c) (leb many machine_max) e in
      let v = and_split (a && b) c u.0 in
      let w = and_split a b v.0 in
      record {
        machine_rows_lem = eqb-true _ 0 w.0;
        state_rows_lem = eqb-true _ 0 w.1;
        transition_rows_lem = eqb-true _ 0 v.1;
        most = leb-true _ _ u.1;
      }

  of-whole : Whole machines states ts → whole_tables machines states ts ≡ true
  unfolding whole_tables
  of-whole w = rw (eq-eqb _ 0 w.machine_rows_lem, eq-eqb _ 0 w.state_rows_lem, eq-eqb _ 0 w.transition_rows_lem) (le-leb _ _ w.most)

  -- Of each number: its condition holds, at the first place in document 01's order. Of 0: the tables are valid.
  pub answered : TablesAnswer machines states ts (tables_refusal machines states ts)
  unfolding tables_refusal
  answered = by (whole_tables machines states ts) refl
    where
      each : Whole machines states ts →
          Scanned on_machine many 0 many GoodMachine OnMachine → TablesAnswer machines states ts (first_refusal on_machine many 0)
      each w (inl (r, f)) = first-machine r w f
      each w (inr (e, all)) = tables_pass e (record { whole = w; each = λ i h. all i (omega arith) h })

      by : (b : Bool) → whole_tables machines states ts ≡ b →
          TablesAnswer machines states ts (cond b (first_refusal on_machine many 0) 3)
      by false p = three refl (λ w. clash (of-whole w) p)
      by true p =
          each (whole p)
          (scan on_machine many 0 many (zero-add many) GoodMachine OnMachine
          (λ j h e. zero-machine states ts (machine_of j) e) (λ j h. machine-answered states ts (machine_of j)))

  -- No refusal is met exactly where the tables are valid.
  pub zero_valid : tables_refusal machines states ts ≡ 0 → Valid machines states ts
  zero_valid e = by answered
    where
      by : TablesAnswer machines states ts (tables_refusal machines states ts) → Valid machines states ts
      by (tables_pass r v) = v
      by (three r w) = absurd (omega arith)
      by (first-machine r w f) = absurd (omega arith)

  pub valid_zero : Valid machines states ts → tables_refusal machines states ts ≡ 0
  unfolding tables_refusal
  valid_zero v =
      rw (of-whole v.whole)
      (all_zero on_machine many 0
      (λ j h g. machine-zero states ts (machine_of j) (v.each j (subst (λ (m : ℕ). j < m) (zero-add many) g))))
