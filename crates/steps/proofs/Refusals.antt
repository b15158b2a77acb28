-- The numbers by which openings and batches refuse: those of the checks, and in a run those of its source alone. Assumes nothing.
use Rattle.std.specs.Prelude.{ℕ, ◌*◌, ◌≤◌, ◌<◌, List, refl, eqb, ltb, Float, length}
use Rattle.std.proofs.Common.{le_trans, arith}
use Rattle.machine.specs.Source.{Source, tapes}
use Rattle.machine.specs.declared.source.Place.{Place}
use Rattle.rows.specs.First.{or_else}
use Rattle.tables.specs.Framework.{is_fraction, fractions_refusal}
use Rattle.tables.specs.Machine.{tables_refusal}
use Rattle.tables.specs.Valid.{TransitionAnswer, transition-passes, nine, ten, eleven, twelve, PairAnswer, pair-passes, eight, first-transition, thirteen}
use Rattle.tables.specs.Valid.{StateAnswer, state-passes, first-event, fourteen, fifteen, MachineAnswer, machine-passes, four, five, six, seven, first-state}
use Rattle.tables.specs.Valid.{TablesAnswer, tables_pass, three, first-machine}
use Rattle.tables.proofs.Valid.Laws.{answered}
use Rattle.steps.specs.Events.{Tables, num_machines, env_of}
use Rattle.steps.specs.Framework.{rows_in, fits_tables, events_fit, open_run, opening, trigger_events, batch_refusal, batch}
use Rattle.steps.specs.Runs.{either, OutcomeOk, ok_map, opening_ok, batch_ok}
use Rattle.steps.specs.Draws.{Refuses, by_tapes}
use Rattle.steps.specs.Walk.{Closed}
use Rattle.steps.specs.Machines.{Family, member, InRun, batch_kept, opening_kept}
use Rattle.steps.specs.declared.Framework.{Framework}

-- ---- a run stops only by a refusal of its source
abbrev anything : (ℕ → Type 0) → Family
anything R = record { RefusedBy = R; Machine = λ i r. Unit; Action = λ i a. Unit; Signal = λ pending. Unit }

module _ (R : ℕ → Type 0) (tables : Tables) (D : Source Place) (refuses : Refuses R D) where
  pub opening_stops : (padding blocking : Float) (time : ℕ) → OutcomeOk R (λ x. Unit) (open_run tables padding blocking time D)
  opening_stops padding blocking time =
      opening_kept R (λ x. Unit) tables D refuses (λ i limit at x q. tt) padding blocking time tt

  pub run_stops : (time : ℕ) (es : List ℕ) (fw : Framework) → OutcomeOk R (λ x. Unit) (trigger_events tables D time es fw)
  run_stops time es fw =
      ok_map R (InRun (anything R) (num_machines fw)) (λ x. Unit) (trigger_events tables D time es fw)
      (batch_kept (anything R) (num_machines fw) tables D closed (λ i r c v. tt) tt time es fw refl (λ i h. tt) tt)
      (λ x v. tt)
    where
      closed : (fw' : Framework) (i : ℕ) → i < num_machines fw → Closed (env_of tables D fw' i) (member (anything R) i)
      closed fw' i h = record {
        refuses = refuses;
        enters = λ r next limit v c. tt;
        ends = λ r v l. tt;
        falls = λ r v. tt;
        counters = λ r c v. tt;
        schedules = λ r a v l below g. tt;
        clears = tt;
        raises = λ pending v. tt;
      }

-- ---- the checks: tables give 3 to 15
module _ (ts : List ℕ) (n r : ℕ) where
  transition-most : (first i : ℕ) → TransitionAnswer ts n first i r → r ≤ 15
  transition-most first i (transition-passes e v) = omega arith
  transition-most first i (nine e w) = omega arith
  transition-most first i (ten e w t) = omega arith
  transition-most first i (eleven e w t s) = omega arith
  transition-most first i (twelve e w t s p) = omega arith

  pair-most : (first count : ℕ) → PairAnswer ts n first count r → r ≤ 15
  pair-most first count (pair-passes e v) = omega arith
  pair-most first count (eight e h g) = omega arith
  pair-most first count (first-transition e h f) = transition-most first f.place f.here
  pair-most first count (thirteen e m h a s) = omega arith

  state-most : (row : List ℕ) → StateAnswer ts n row r → r ≤ 15
  state-most row (state-passes e v) = omega arith
  state-most row (first-event e f) = pair-most _ _ f.here
  state-most row (fourteen e h k) = omega arith
  state-most row (fifteen e h k d) = omega arith

machine_most : (states ts row : List ℕ) (r : ℕ) → MachineAnswer states ts row r → r ≤ 15
machine_most states ts row r (machine-passes e v) = omega arith
machine_most states ts row r (four e h) = omega arith
machine_most states ts row r (five e h g) = omega arith
machine_most states ts row r (six e h g f) = omega arith
machine_most states ts row r (seven e h g s m l) = omega arith
machine_most states ts row r (first-state e h g w f) = state-most ts _ r _ f.here

pub tables_most : (machines states ts : List ℕ) → tables_refusal machines states ts ≤ 15
tables_most machines states ts = by (tables_refusal machines states ts) (answered machines states ts)
  where
    by : (r : ℕ) → TablesAnswer machines states ts r → r ≤ 15
    by r (tables_pass e v) = omega arith
    by r (three e w) = omega arith
    by r (first-machine e w f) = machine_most states ts _ r f.here

either_most : (m a b : ℕ) → a ≤ m → b ≤ m → or_else a b ≤ m
unfolding or_else
either_most m a b h k = either (λ z. z ≤ m) (eqb a 0) b a k h

fractions_most : (padding blocking : Float) → fractions_refusal padding blocking ≤ 2
unfolding fractions_refusal
fractions_most padding blocking =
    either (λ z. z ≤ 2) (is_fraction padding) _ _ (either (λ z. z ≤ 2) (is_fraction blocking) _ _ (omega arith) (omega arith)) (omega arith)

pub checks_most : (fw : Framework) (tables : Tables) (es out : List ℕ) → batch_refusal fw tables es out ≤ 20
unfolding batch_refusal
checks_most fw tables es out =
    either_most 20 (tables_refusal tables.machines tables.states tables.transitions) _
    (le_trans (tables_most tables.machines tables.states tables.transitions) (omega arith))
    (either (λ z. z ≤ 20) (fits_tables tables fw) _ _
    (either (λ z. z ≤ 20) (events_fit es) _ _
    (either (λ z. z ≤ 20) (ltb (length out) (6 * rows_in tables.machines)) _ _ (omega arith) (omega arith)) (omega arith)) (omega arith))

-- ---- THEOREM: an opening refuses by at most 17 and a batch by at most 20, where the source's own numbers are no larger.
pub opening_refusal : (tables : Tables) (padding blocking : Float) (time : ℕ) (D : Source Place) → Refuses (λ n. n ≤ 17) D
    → (opening tables padding blocking time D).refusal ≤ 17
opening_refusal tables padding blocking time D refuses =
    opening_ok (λ n. n ≤ 17) (λ x. Unit) (λ o. o.refusal ≤ 17) tables padding blocking time D
    (λ e. opening_stops (λ n. n ≤ 17) tables D refuses padding blocking time)
    (λ e. either_most 17 (fractions_refusal padding blocking) _ (le_trans (fractions_most padding blocking) (omega arith))
    (le_trans (tables_most tables.machines tables.states tables.transitions) (omega arith)))
    (λ e n h. h) (λ e x q. omega arith)

pub batch_refusal_lem : (fw : Framework) (tables : Tables) (time : ℕ) (es : List ℕ) (D : Source Place) → Refuses (λ n. n ≤ 20) D
    → (out : List ℕ) → (batch fw tables time es D out).answer.refusal ≤ 20
batch_refusal_lem fw tables time es D refuses out =
    batch_ok (λ n. n ≤ 20) (λ x. Unit) (λ b. b.answer.refusal ≤ 20) fw tables time es D out
    (λ e. run_stops (λ n. n ≤ 20) tables D refuses time es fw) (λ e. checks_most fw tables es out) (λ e n h. h)
    (λ e x q. omega arith)

-- two tapes refuse by 16 and 17
pub opening_refusal_on_tapes : (tables : Tables) (padding blocking : Float) (time : ℕ) (chances values : List Float)
    → (opening tables padding blocking time (tapes chances values)).refusal ≤ 17
opening_refusal_on_tapes tables padding blocking time chances values =
    opening_refusal tables padding blocking time (tapes chances values)
    (by_tapes (λ n. n ≤ 17) (omega arith) (omega arith) chances values)

pub batch_refusal_on_tapes : (fw : Framework) (tables : Tables) (time : ℕ) (es : List ℕ) (chances values : List Float) (out : List ℕ)
    → (batch fw tables time es (tapes chances values) out).answer.refusal ≤ 20
batch_refusal_on_tapes fw tables time es chances values =
    batch_refusal_lem fw tables time es (tapes chances values)
    (by_tapes (λ n. n ≤ 20) (omega arith) (omega arith) chances values)
