-- A machine of valid tables stays in its states: a choice goes to a target of its row, and the table checks leave only states of the
-- machine and the special ones. Assumes nothing.
use Rattle.std.specs.Prelude.{Option, Some, None}
use Rattle.std.specs.Prelude.{ℕ, zero, suc, ◌+◌, ◌*◌, ◌≤◌, ◌<◌, min, Bool, true, false, ◌||◌, List, ◌⊎◌, ◌≡◌, T, leb, ltb, eqb, Float, length, get_or, take, drop}
use Rattle.std.proofs.Math.Decide.{ℕ_discrete, dec_lt}
use Rattle.std.proofs.Common.{le_refl, arith, inl, inr, sym, ◌∙◌, eqb→eq, ltb→lt, lit<, length-take}
use Rattle.std.proofs.Math.Path.{subst}
use Rattle.std.specs.Float.{binary32}
use Rattle.std.specs.Float.Ieee.{of_bits, add, lt}
use Rattle.std.specs.Float.Ieee.Fits.{and_l, and_r}
use Rattle.std.proofs.Math.ListN.{get_or-eq_default}
use Rattle.std.proofs.Math.Seq.{get_or-take, get_or-drop}
use Rattle.machine.specs.Constants.{events, event_num, machine_words, state_words, transition_words, first_state, num_states, state_end}
use Rattle.machine.specs.Source.{Source}
use Rattle.machine.specs.declared.source.Place.{Place}
use Rattle.machine.specs.State.{rows_of, state_row, first_of, count_of, target_at, probability_at, walk, sample_state}
use Rattle.tables.specs.Machine.{tables_refusal}
use Rattle.tables.specs.Valid.{Target, ValidPair, ValidState}
use Rattle.tables.proofs.Valid.Laws.{zero_valid}
use Rattle.steps.specs.Events.{Tables, runtime_at, machine_word, states_of, env_of}
use Rattle.steps.specs.Framework.{rows_in, states_fit}
use Rattle.steps.specs.Runs.{either}
use Rattle.steps.specs.Walk.{Alive, Chosen}
use Rattle.steps.specs.declared.MachineRuntime.{MachineRuntime}
use Rattle.steps.specs.declared.Framework.{Framework}

-- ended, or one of n states
abbrev pub Inside : ℕ → MachineRuntime → Type 0
Inside n r = (r.current_state ≡ state_end) ⊎ (r.current_state < n)

pub in_state : {n : ℕ} (r : MachineRuntime) → Inside n r → Alive r → r.current_state < n
in_state r (inl e) alive = absurd (alive e)
in_state r (inr h) alive = h

-- ---- a choice goes to a target of its row
abbrev pub Aimed : ℕ → Option ℕ → Type 0
Aimed n None = Unit
Aimed n (Some t) = Target n t

walk_aimed : (ts : List ℕ) (n : ℕ) (sum draw : Float) (k i : ℕ)
    → ((j : ℕ) → i ≤ j → j < i + k → Target n (target_at ts j)) → Aimed n (walk ts i k sum draw)
unfolding walk
walk_aimed ts n sum draw zero i h = tt
walk_aimed ts n sum draw (suc k) i h =
    either (Aimed n) (lt draw (add binary32 sum (probability_at ts i))) _ _ (h i (le_refl i) (omega arith))
    (walk_aimed ts n (add binary32 sum (probability_at ts i)) draw k (i + 1) (λ j p q. h j (omega arith) (omega arith)))

sample_aimed : (ts : List ℕ) (n first count : ℕ) (draw : Float) → ValidPair ts n first count
    → Aimed n (sample_state ts first count draw)
unfolding sample_state walk
sample_aimed ts n first count draw v =
    either (Aimed n) (leb ((first + count) * transition_words) (length ts)) _ _ (by v) tt
  where
    by : ValidPair ts n first count → Aimed n (walk ts first count (of_bits binary32 0) draw)
    by (inl e) = subst (λ (c : ℕ). Aimed n (walk ts first c (of_bits binary32 0) draw)) (sym e) tt
    by (inr v) = walk_aimed ts n (of_bits binary32 0) draw count first (λ j p q. (v.transitions j p q).target)

-- beyond the thirteen events a state has no row
no_more : (rows : List ℕ) (state event : ℕ) → event_num ≤ event → count_of (state_row rows state) event ≡ 0
unfolding rows_of
no_more rows state event h =
    get_or-eq_default (take (1 * state_words) (drop (state * state_words) rows)) 0
    (short (length (take (1 * state_words) (drop (state * state_words) rows))) (length (drop (state * state_words) rows))
    (length-take (1 * state_words) (drop (state * state_words) rows)))
  where
    short : (a b : ℕ) → a ≡ min (1 * state_words) b → a ≤ events + event * 2 + 1
    short a b e = omega arith

-- ---- a machine of tables that passed
abbrev pub Passed : Tables → Type 0
Passed tables = tables_refusal tables.machines tables.states tables.transitions ≡ 0

abbrev pub states_in : Tables → ℕ → ℕ
states_in tables i = machine_word tables.machines i num_states

module _ (tables : Tables) (valid : Passed tables) (i : ℕ) (h : i < rows_in tables.machines) where
  pub word : (k : ℕ) → k < machine_words → get_or (rows_of machine_words tables.machines i 1) k 0 ≡ machine_word tables.machines i k
  unfolding rows_of
  word k l =
      get_or-take (1 * machine_words) (drop (i * machine_words) tables.machines) k 0 l ∙ get_or-drop (i * machine_words) tables.machines k 0

  -- it has a first state
  pub some_state : 0 < states_in tables i
  some_state =
      subst (λ (n : ℕ). 0 < n) (word num_states (lit< tt))
      ((zero_valid tables.machines tables.states tables.transitions valid).each i h).place.some

  States : ℕ → ℕ → Type 0
  States first n =
      (state : ℕ) → state < n → ValidState tables.transitions n (state_row (rows_of state_words tables.states first n) state)

  its-states : States (machine_word tables.machines i first_state) (machine_word tables.machines i num_states)
  unfolding States
  its-states =
      subst (λ (n : ℕ). States (machine_word tables.machines i first_state) n) (word num_states (lit< tt))
      (subst (λ (f : ℕ). States f (get_or (rows_of machine_words tables.machines i 1) num_states 0)) (word first_state (lit< tt))
      ((zero_valid tables.machines tables.states tables.transitions valid).each i h).each)

  -- each of its states is valid
  pub valid_state : (state : ℕ) → state < states_in tables i → ValidState tables.transitions (states_in tables i) (state_row (states_of tables i) state)
  unfolding States
  valid_state = its-states

  aims : (state event : ℕ) → state < states_in tables i → (draw : Float)
      → Aimed (states_in tables i)
      (sample_state tables.transitions (first_of (state_row (states_of tables i) state) event) (count_of (state_row (states_of tables i) state) event) draw)
  aims state event k draw =
      sample_aimed tables.transitions (states_in tables i) (first_of (state_row (states_of tables i) state) event)
      (count_of (state_row (states_of tables i) state) event) draw
      (elim (dec_lt event event_num) [
        | yes l ↦ (valid_state state k).events event l
        | no l ↦ inl (no_more (states_of tables i) state event (omega arith))
      ])

  -- and where it goes is one of them
  pub goes_inside : (D : Source Place) (fw : Framework) (r : MachineRuntime) (next : ℕ) → Inside (states_in tables i) r
      → Chosen (env_of tables D fw i) r next → next < states_in tables i
  goes_inside D fw r next inside c =
      a-state
      (subst (Aimed (states_in tables i)) c.chosen (aims r.current_state c.event (in_state r inside c.alive) c.draw))
    where
      a-state : Target (states_in tables i) next → next < states_in tables i
      a-state (inl k) = k
      a-state (inr (inl e)) = absurd (c.no_end e)
      a-state (inr (inr e)) = absurd (c.no_signal e)

-- ---- a framework whose states fit has its machines in their states
pub fit_states : (tables : Tables) (fw : Framework) (n : ℕ) → T (states_fit tables fw n) → (i : ℕ) → i < n
    → Inside (states_in tables i) (runtime_at fw i)
unfolding states_fit
fit_states tables fw zero t i h = absurd (none h)
  where
    none : i < 0 → ⊥
    none h = omega arith
fit_states tables fw (suc n) t i h = elim (ℕ_discrete i n) [
  | yes e ↦
      subst (λ (j : ℕ). Inside (states_in tables j) (runtime_at fw j)) (sym e)
      (one (eqb (runtime_at fw n).current_state state_end) (eqb→eq (runtime_at fw n).current_state state_end)
      (and_r (states_fit tables fw n) _ t))
  | no e ↦ fit_states tables fw n (and_l (states_fit tables fw n) _ t) i (omega arith)
]
  where
    one : (b : Bool) → (T b → (runtime_at fw n).current_state ≡ state_end)
        → T (b || ltb (runtime_at fw n).current_state (states_in tables n)) → Inside (states_in tables n) (runtime_at fw n)
    one true e t = inl (e tt)
    one false e t = inr (ltb→lt (runtime_at fw n).current_state (states_in tables n) t)
