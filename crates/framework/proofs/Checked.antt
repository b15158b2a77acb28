-- Refusals in order, and what holds where there is none.
use Prim.Native.Nat.{ℕ, ◌*◌, ◌/◌, ◌%◌, ◌≤◌, ◌<◌}
use mathlib.Core.Path.{◌≡◌, refl, sym, subst, ◌∙◌}
use mathlib.Core.List.{List}
use mathlib.Core.Bool.{Bool, true, false, false≢true, cond, ◌&&◌}
use native.Mathlib.Omega.{arith}
use lib.Dec.{T as Holds, eqb, ltb}
use lib.ListN.{length}
use borrow.Author.Tests.{eq-eqb, ne_eqb, ltb-false}
use Rattle.machine.specs.Source.{Source}
use Rattle.machine.specs.declared.source.Place.{Place}
use Rattle.tables.specs.Machine.{tables_refusal}
use Rattle.tables.proofs.Valid.Laws.{zero_valid}
use lib.Ieee.{Float}
use Rattle.tables.specs.Framework.{fractions_refusal}
use Rattle.steps.specs.Words.{outside_refused}
use Rattle.steps.specs.Events.{Tables, num_machines, stop, and_then, each, event_turn, signals}
use Rattle.steps.specs.Framework.{or_else, rows_in, fits_tables, kinds_fit, events_fit, batch_refusal, begin, trigger_events, refused, concluded, batch, open_refusal, open_run, opened_by, opening}
use Rattle.steps.proofs.Fits.{fits_says}
use Rattle.steps.specs.declared.Framework.{Framework}

pub few_machines : (machines states transitions : List ℕ) → tables_refusal machines states transitions ≡ 0 → rows_in machines ≤ 16
few_machines machines states transitions e = (zero_valid machines states transitions e).whole.most

both : (a b : Bool) → (a && b) ≡ true → (a ≡ true) × (b ≡ true)
both true b e = (refl, e)
both false b e = absurd (false≢true e)

-- a test whose failure is refused with n
passes : (b : Bool) (x n : ℕ) → 0 < n → cond b x n ≡ 0 → (b ≡ true) × (x ≡ 0)
passes true x n h e = (refl, e)
passes false x n h e = absurd (omega (arith, h, e))

-- a test whose success is refused with n
passes_not : (b : Bool) (n : ℕ) → 0 < n → cond b n 0 ≡ 0 → b ≡ false
passes_not true n h e = absurd (omega (arith, h, e))
passes_not false n h e = refl

-- 18, 19 and 20
abbrev pub rest : Framework → Tables → List ℕ → ℕ → ℕ
rest fw T es room = cond (fits_tables T fw) (cond (events_fit es) (cond (ltb room (6 * rows_in T.machines)) 20 0) 19) 18

module _ (fw : Framework) (T : Tables) (es : List ℕ) where
  -- what holds where there is none of these: the kinds are known, and the output has room for a row of each machine
  pub rest_passes : (room : ℕ) → rest fw T es room ≡ 0 →
      (kinds_fit es (length es / 2) ≡ true) × (6 * num_machines fw ≤ room)
  unfolding events_fit
  rest_passes room e =
      let short = ltb room (6 * rows_in T.machines) in
      let fits = passes (fits_tables T fw) (cond (events_fit es) (cond short 20 0) 19) 18 (omega arith) e in
      let events = passes (events_fit es) (cond short 20 0) 19 (omega arith) fits.1 in
      let long = ltb-false room (6 * rows_in T.machines) (passes_not short 20 (omega arith) events.1) in
      let count : fw.machines ≡ rows_in T.machines = (fits_says T fw (subst Holds (sym fits.0) tt)).machines in
      ((both (eqb (length es % 2) 0) (kinds_fit es (length es / 2)) events.0).1, omega (arith, long, count))

  module _ (time : ℕ) (D : Source Place) (out : List ℕ) where
    -- a batch refused by its tables
    pub tables_stop : {n : ℕ} → tables_refusal T.machines T.states T.transitions ≡ n → 0 < n → batch fw T time es D out ≡ refused fw out n
    unfolding batch batch_refusal or_else
    tables_stop {n} e h = let f = ne_eqb n 0 (λ z. omega (arith, h, z)) in rw (e, f, f)

    module _ (pass : tables_refusal T.machines T.states T.transitions ≡ 0) where
      refusal-is : batch_refusal fw T es out ≡ rest fw T es (length out)
      unfolding batch_refusal or_else
      refusal-is = rw pass

      pub rest_stops : {n : ℕ} → rest fw T es (length out) ≡ n → 0 < n → batch fw T time es D out ≡ refused fw out n
      unfolding batch
      rest_stops {n} e h = rw (refusal-is ∙ e, ne_eqb n 0 (λ z. omega (arith, h, z)))

      pub runs : rest fw T es (length out) ≡ 0 →
          batch fw T time es D out
          ≡ concluded fw out (and_then (each (event_turn T D es) (length es / 2) 0 (begin fw time)) (signals T D))
      unfolding batch trigger_events
      runs e = rw (refusal-is ∙ e)

-- ---- an opening
none_then : (a b : ℕ) → or_else a b ≡ 0 → b ≡ 0
unfolding or_else
none_then a b e = by (eqb a 0) refl e
  where
    by : (z : Bool) → eqb a 0 ≡ z → cond z b a ≡ 0 → b ≡ 0
    by true h e = e
    by false h e = absurd (false≢true (sym h ∙ eq-eqb a 0 e))

module _ (T : Tables) (padding blocking : Float) where
  pub opens_few : open_refusal T padding blocking ≡ 0 → rows_in T.machines ≤ 16
  opens_few e =
      few_machines T.machines T.states T.transitions
      (none_then (fractions_refusal padding blocking) (tables_refusal T.machines T.states T.transitions) e)

  module _ (time : ℕ) (D : Source Place) where
    pub opening_stops : {n : ℕ} → open_refusal T padding blocking ≡ n → 0 < n → opening T padding blocking time D ≡ opened_by (stop n)
    unfolding opening
    opening_stops {n} e h = rw (e, ne_eqb n 0 (λ z. omega (arith, h, z)))

    pub opening_runs : open_refusal T padding blocking ≡ 0 → opening T padding blocking time D ≡ opened_by (open_run T padding blocking time D)
    unfolding opening
    opening_runs e = rw e

-- ---- with words 24 stands after the tables, and before the rest
module _ (T : Tables) where
  pub never_outside : {n : ℕ} → 0 < n → outside_refused n T ≡ false
  never_outside {n} h = rw (ne_eqb n 0 (λ z. omega (arith, h, z)))
