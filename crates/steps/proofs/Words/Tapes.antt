-- The two tapes worked out from words: the chances and values that the steps of a batch or an opening are given by the words, in the
-- order in which they ask. On sound tables the steps run on these tapes as on the words and use them up, and stop by 16 alone.
-- Assumes nothing.
use Rattle.std.specs.Prelude.{ℕ, ◌+◌, ◌*◌, ◌/◌, ◌≤◌, true, List, ◌≡◌, refl, Float, length}
use Rattle.std.proofs.Common.{arith, ap, ◌∙◌}
use Rattle.machine.specs.Source.{Drawn, no, got, Source, place, tapes}
use Rattle.machine.specs.Words.{words}
use Rattle.machine.specs.declared.source.Place.{Place}
use Rattle.steps.specs.Transition.{with_place}
use Rattle.steps.specs.Events.{Tables, Outcome, stop, go, and_then, each, num_machines, event_turn, signals}
use Rattle.steps.specs.Framework.{none_zeroed, no_actions, new_framework, open_turn, rows_in, open_run, kinds_fit, trigger_events}
use Rattle.steps.specs.Runs.{OutcomeOk}
use Rattle.steps.specs.Play.{Counts, run, Plays}
use Rattle.steps.specs.Play.Runs.{Running, run_of, outcome, beginning, Costs, batch_plays, open_plays}
use Rattle.steps.specs.Play.Laws.{Given, worked_out, Honest, retold}
use Rattle.steps.proofs.Play.Laws.{follows, Only16, only_16}
use Rattle.steps.specs.Words.Honest.{words_honest}
use Rattle.steps.specs.Words.Sound.{Sound}
use Rattle.steps.specs.declared.Framework.{Framework}

-- where every source begins
abbrev pub front : Place
front = place 0 0

-- both tapes at their end
abbrev pub used_up : Given → Place
used_up g = place (length g.chances) (length g.values)

-- the same outcome, its source at another place
abbrev pub at_place : Outcome → Place → Outcome
at_place (stop n) at = stop n
at_place (go x) at = go (record { framework = x.framework; actions = x.actions; shared = with_place x.shared at })

abbrev pub Stops16 : Outcome → Type 0
Stops16 = OutcomeOk (λ n. n ≡ 16) (λ x. Unit)

-- ---- any run that is a play, on an honest source
module _ (S : Type 0) (Post : ℕ → Running → Counts → Counts → Type 0) (f : Source Place → Place → Outcome) (P : Plays S outcome Post f)
    (sound : S) (D : Source Place) (honest : Honest D) where
  on-tapes : f (tapes (worked_out D P.play front).chances (worked_out D P.play front).values) front
      ≡ at_place (f D front) (used_up (worked_out D P.play front))
  on-tapes =
      rw (P.same (tapes g.chances g.values) front, P.same D front)
      (ap outcome (follows D honest P.play (P.served sound) front g.chances g.values 0 0 refl refl)
      ∙ by (run D P.play front) (used_up g) (0 + length g.chances) (0 + length g.values) (omega arith) (omega arith))
    where
      g : Given
      g = worked_out D P.play front

      by : (d : Drawn Place Running) (p : Place) (c v : ℕ) → c ≡ p.chance_at → v ≡ p.value_at
          → outcome (retold d (place c v)) ≡ at_place (outcome d) p
      by (no n s) p c v a b = refl
      by (got x s) p c v a b = rw (a, b)

  stops-16 : Stops16 (f D front)
  stops-16 = rw (P.same D front) (by (run D P.play front) (only_16 D honest P.play (P.served sound) front))
    where
      by : (d : Drawn Place Running) → Only16 d → Stops16 (outcome d)
      by (no r s) h = h
      by (got x s) h = tt

-- ---- a batch
module _ (T : Tables) (time : ℕ) (es : List ℕ) (fw : Framework) where
  abbrev pub BatchCost : ℕ → Running → Counts → Counts → Type 0
  BatchCost i y k k' =
      kinds_fit es (length es / 2) ≡ true
      → Costs (num_machines fw) (length es / 2 * (num_machines fw + 1) + num_machines fw) 1 (beginning fw time) y k k'

  abbrev pub triggers_by : Source Place → Place → Outcome
  triggers_by D s = and_then (each (event_turn T D es) (length es / 2) 0 (run_of (beginning fw time) s)) (signals T D)

  pub batch_play : Plays (Sound T) outcome BatchCost triggers_by
  batch_play = batch_plays (Sound T) (num_machines fw) T (λ s. s) es (beginning fw time)

  abbrev pub batch_tapes : List ℕ → Given
  batch_tapes ws = worked_out (words ws) batch_play.play front

  pub batch_on_tapes : Sound T → (ws : List ℕ)
      → trigger_events T (tapes (batch_tapes ws).chances (batch_tapes ws).values) time es fw
      ≡ at_place (trigger_events T (words ws) time es fw) (used_up (batch_tapes ws))
  unfolding trigger_events
  batch_on_tapes sound ws = on-tapes (Sound T) BatchCost triggers_by batch_play sound (words ws) (words_honest ws)

  pub batch_stops_16 : Sound T → (ws : List ℕ) → Stops16 (trigger_events T (words ws) time es fw)
  unfolding trigger_events
  batch_stops_16 sound ws = stops-16 (Sound T) BatchCost triggers_by batch_play sound (words ws) (words_honest ws)

-- ---- an opening
module _ (T : Tables) (padding blocking : Float) (time : ℕ) where
  abbrev pub first : Running
  first = record {
    framework = new_framework (rows_in T.machines) padding blocking time;
    actions = no_actions;
    flags = record { pending = 0; zeroed = none_zeroed };
  }

  abbrev pub OpeningCost : ℕ → Running → Counts → Counts → Type 0
  OpeningCost i y k k' = k'.values ≤ k.values + rows_in T.machines

  abbrev pub opens_by : Source Place → Place → Outcome
  opens_by D s = each (open_turn T D) (rows_in T.machines) 0 (run_of first s)

  pub opening_play : Plays (Sound T) outcome OpeningCost opens_by
  opening_play = open_plays (Sound T) T (λ s. s) (rows_in T.machines) 0 first

  abbrev pub opening_tapes : List ℕ → Given
  opening_tapes ws = worked_out (words ws) opening_play.play front

  pub opening_on_tapes : Sound T → (ws : List ℕ)
      → open_run T padding blocking time (tapes (opening_tapes ws).chances (opening_tapes ws).values)
      ≡ at_place (open_run T padding blocking time (words ws)) (used_up (opening_tapes ws))
  opening_on_tapes sound ws = on-tapes (Sound T) OpeningCost opens_by opening_play sound (words ws) (words_honest ws)

  pub opening_stops_16 : Sound T → (ws : List ℕ) → Stops16 (open_run T padding blocking time (words ws))
  opening_stops_16 sound ws = stops-16 (Sound T) OpeningCost opens_by opening_play sound (words ws) (words_honest ws)
