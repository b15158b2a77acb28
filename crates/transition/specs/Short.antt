-- Where the short way holds, it is the machine's turn: `kept_turn`, `acted_turn`. Assumes nothing.
use Rattle.std.specs.Prelude.{Result, Ok, Err, Option, Some, None}
use Rattle.machine.specs.declared.source.Draw.{Draw}
use Rattle.std.specs.Prelude.{ℕ, List, Bool, cond, not, ◌&&◌, ◌||◌, ◌≡◌}
use Rattle.std.proofs.Math.Bool.{true, false}
use Rattle.std.proofs.lemmas.Bool.{false≢true}
use Rattle.std.proofs.Math.Path.{refl}
use Rattle.std.proofs.Common.{sym}
use Rattle.std.proofs.Math.Dec.{eqb}
use Rattle.machine.specs.Constants.{state_end, state_signal}
use Rattle.machine.specs.State.{state_row}
use Rattle.machine.specs.declared.source.Place.{Place}
use Rattle.machine.specs.Source.{draw}
use Rattle.moves.specs.Short.{runtime_after, shared_after, move_of, scheduled_in, settle_in, settle_with, settle_from, settle, short}
use Rattle.moves.specs.declared.settle.Moved.{Moved}
use Rattle.moves.specs.declared.settle.Short.{Short}
use Rattle.moves.specs.declared.settle.Short.TheVariants.{Elsewhere, Kept, Acted}
use Rattle.samples.specs.Action.{sample_limit}
use Rattle.steps.specs.Events.{after_transition}
use Rattle.steps.specs.Limits.{below_action_limits}
use Rattle.steps.specs.Transition.{Env, with_state, with_place, entered_with, enter, schedule_action, update_counters, counted, has_changed, scheduled_step, done}
use Rattle.steps.specs.Transition.{finish, finished, after_counters, update_counter, entering, zero_transition}
use Rattle.steps.specs.declared.MachineRuntime.{MachineRuntime}
use Rattle.steps.specs.declared.Shared.{Shared}
use Rattle.steps.specs.declared.Step.{Step}
use Rattle.steps.specs.declared.Tally.{Tally}
use Rattle.steps.specs.declared.TriggerAction.{TriggerAction}
use Rattle.steps.specs.declared.Update.{Update}
use Rattle.transition.specs.Transition.{going_at}

-- the step that a move is, with the action that it leaves
abbrev pub step_after : MachineRuntime → Shared → Option TriggerAction → Moved → Step
step_after r s p d = record {
  runtime = runtime_after r d;
  shared = shared_after s d;
  action = p;
  changed = not (eqb r.current_state d.current_state);
}

-- what an answer of the short way says of the turn x
abbrev Says : MachineRuntime → Shared → Option TriggerAction → Short → Result Step ℕ → Type 0
Says r s p Elsewhere x = x ≡ x
Says r s p (Kept d) x = x ≡ Ok (step_after r s p d)
Says r s p (Acted q d) x = x ≡ Ok (step_after r s (Some q) d)

-- no limit falls
no_fall : (falls same x : Bool) → (falls && same) ≡ false → (falls && not (not same) && x) ≡ false
no_fall true true x h = absurd (false≢true (sym h))
no_fall true false x h = refl
no_fall false same x h = refl

module _ (n : ℕ) (E : Env) (falls : Bool) (r : MachineRuntime) (s : Shared) (p : Option TriggerAction) where
  -- in a state, whose row is `row`
  module _ (row : List ℕ) (state limit : ℕ) (still : (falls && eqb r.current_state state) ≡ false) where
    abbrev q : MachineRuntime
    q = with_state r state limit

    module _ (at : Place) (t : Tally) where
      abbrev u : Update
      u = counted q (with_place s at) p t

      scheduled : (below : Bool) (x : Result (Draw TriggerAction) ℕ) →
          Says r s p (cond below (scheduled_in q t x) (Kept (move_of q t t.place)))
          (after_transition E falls
          (cond below
          (scheduled_step u (has_changed r.current_state u) x)
          (done u.runtime u.shared u.action (has_changed r.current_state u))))
      scheduled true (Err k) = refl
      scheduled true (Ok d) = rw (no_fall falls (eqb r.current_state state) (not (eqb state state_end)) still)
      scheduled false x = rw (no_fall falls (eqb r.current_state state) (not (eqb state state_end)) still)

      reported : (reports : Bool) (zero : Result Update ℕ) →
          Says r s p (cond reports Elsewhere (settle_in row E.source.values E.context q t))
          (after_transition E falls
          (finished row E.source.values r.current_state (below_action_limits E.context q row)
          (cond reports zero (Ok u))))
      unfolding settle_in finish
      reported true zero = refl
      reported false zero =
          scheduled (below_action_limits E.context q row) (schedule_action row E.source.values t.place)

    tallied : (at : Place) (x : Result Tally ℕ) →
        Says r s p (settle_with row E.source.values E.context q x)
        (after_transition E falls
        (finished row E.source.values r.current_state (below_action_limits E.context q row)
        (after_counters (zero_transition n E) E q (with_place s at) p x)))
    tallied at (Err k) = refl
    tallied at (Ok t) = reported at t t.reports _

    entered : (at : Place) →
        Says r s p (settle_from row E.source.values E.context s.zeroed (Ok (draw q at)))
        (after_transition E falls (entering (zero_transition n E) E row r.current_state s p (Ok (draw q at))))
    unfolding update_counter
    entered at = tallied at (update_counters row E.source.values r.counters s.zeroed at)

  -- another state, by its limit
  drawn : (row : List ℕ) (next : ℕ) (x : Result (Draw ℕ) ℕ) → (falls && eqb r.current_state next) ≡ false →
      Says r s p (settle_from row E.source.values E.context s.zeroed (entered_with r next x))
      (after_transition E falls (entering (zero_transition n E) E row r.current_state s p (entered_with r next x)))
  drawn row next (Err k) h = refl
  drawn row next (Ok w) h = entered row next w.value h w.at

  settled : (row : List ℕ) (next : ℕ) (same : Bool) → eqb r.current_state next ≡ same → (falls && same) ≡ false →
      Says r s p
      (settle_from row E.source.values E.context s.zeroed
      (cond same (Ok (draw r s.place)) (entered_with r next (sample_limit row E.source.values s.place))))
      (after_transition E falls
      (entering (zero_transition n E) E row r.current_state s p
      (cond same (Ok (draw r s.place)) (entered_with r next (sample_limit row E.source.values s.place)))))
  settled row next true e h =
      entered row r.current_state r.state_limit (none falls h) s.place
    where
      none : (f : Bool) → (f && true) ≡ false → (f && eqb r.current_state r.current_state) ≡ false
      none true h = absurd (false≢true (sym h))
      none false h = refl
  settled row next false e h =
      drawn row next (sample_limit row E.source.values s.place) (rw e h)

  says : (next : Option ℕ) →
      Says r s p (short E.rows E.source.values E.context falls next r s) (after_transition E falls (going_at n E next r s p))
  unfolding short going_at settle enter
  says None = refl
  says (Some next) = by (eqb next state_end) (eqb next state_signal) (falls && eqb r.current_state next) _ _ refl
    where
      by : (ends signals low : Bool) (x y : Result Step ℕ) → (falls && eqb r.current_state next) ≡ low →
          Says r s p
          (cond (ends || signals || low) Elsewhere (settle (state_row E.rows next) E.source.values E.context next r s))
          (after_transition E falls
          (cond ends x (cond signals y
          (entering (zero_transition n E) E (state_row E.rows next) r.current_state s p
          (enter (state_row E.rows next) E.source.values r next s.place)))))
      by true signals low x y e = refl
      by false true low x y e = refl
      by false false true x y e = refl
      by false false false x y e = settled (state_row E.rows next) next (eqb r.current_state next) refl e

  pub kept_turn : (next : Option ℕ) {d : Moved} → short E.rows E.source.values E.context falls next r s ≡ Kept d →
      after_transition E falls (going_at n E next r s p) ≡ Ok (step_after r s p d)
  kept_turn next e = rw e at (says next)

  pub acted_turn : (next : Option ℕ) {a : TriggerAction} {d : Moved} →
      short E.rows E.source.values E.context falls next r s ≡ Acted a d →
      after_transition E falls (going_at n E next r s p) ≡ Ok (step_after r s (Some a) d)
  acted_turn next e = rw e at (says next)
