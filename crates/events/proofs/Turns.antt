-- A loop over turns, and a machine's turn where it changes the counts alone.
use Rattle.std.specs.Prelude.{ℕ, zero, suc, ◌+◌, ◌-◌, ◌≤◌, ◌<◌, ◌≡◌, refl, List, Bool, true, false, Option, Some, None, Result, Ok, Err, get_or, set}
use Rattle.std.proofs.Common.{arith, ◌∙◌}
use Rattle.std.proofs.lemmas.Bool.{false≢true}
use lib.Seq.{set-get_or}
use Rattle.machine.specs.Constants.{counter_num}
use Rattle.machine.specs.Event.{event_of}
use Rattle.machine.specs.Source.{Source, draw}
use Rattle.machine.specs.declared.source.Draw.{Draw}
use Rattle.machine.specs.declared.source.Place.{Place}
use Rattle.steps.specs.Transition.{Env, no_action, done, with_place}
use Rattle.steps.specs.Events.{Tables, Outcome, stop, go, and_then, each, runtime_at, with_runtime, states_of, env_of, counted_by, limit_falls, after_transition, stored, machine_turn}
use Rattle.steps.specs.declared.MachineRuntime.{MachineRuntime}
use Rattle.steps.specs.declared.Run.{Run}
use Rattle.steps.specs.declared.Shared.{Shared}
use Rattle.steps.specs.declared.TriggerAction.{TriggerAction}
use Rattle.moves.specs.Choice.{choose}
use Rattle.moves.specs.Short.{runtime_after, shared_after, short}
use Rattle.moves.specs.declared.settle.Moved.{Moved}
use Rattle.moves.specs.declared.settle.Short.TheVariants.{Kept, Acted}
use Rattle.transition.specs.Transition.{going_at, turn_missing, turn_chosen}
use Rattle.transition.specs.Short.{kept_turn, acted_turn}
use Rattle.account.specs.Account.{only_counts}

-- a turn of `each`
module _ (f : ℕ → Run → Outcome) (n i : ℕ) (x : Run) where
  pub each_end : n ≤ i → each f (n - i) i x ≡ go x
  unfolding each
  each_end h = let none : n - i ≡ zero = omega arith in rw none

  pub each_on : i < n → each f (n - i) i x ≡ and_then (f i x) (each f (n - (i + 1)) (i + 1))
  unfolding each
  each_on h = let one : n - i ≡ suc (n - (i + 1)) = omega arith in rw one

-- where no state was chosen and no limit falls
only : (E : Env) (falls : Bool) (next : Option ℕ) (r : MachineRuntime) (s : Shared) (p : Option TriggerAction)
    → only_counts falls next ≡ true → after_transition E falls (going_at counter_num E next r s p) ≡ done r s p false
unfolding only_counts going_at
only E true next r s p e = absurd (false≢true e)
only E false (Some next) r s p e = absurd (false≢true e)
only E false None r s p e = refl

-- ---- a machine's turn, by its choice
abbrev pub choice_at : Tables → Source Place → ℕ → ℕ → Run → Result (Draw (Option ℕ)) ℕ
choice_at T D kind m x =
    choose (states_of T m) T.transitions D.chance (runtime_at x.framework m).current_state (event_of kind) x.shared.place

module _ (T : Tables) (D : Source Place) (quiet : (event machine : ℕ) (at : Place) → D.attempt event machine at ≡ at)
    (kind machine blocked m : ℕ) (x : Run) where
  abbrev E : Env
  E = env_of T D x.framework m

  abbrev falls : Bool
  falls = limit_falls kind machine m

  abbrev counted : MachineRuntime
  counted = counted_by kind blocked (runtime_at x.framework m)

  abbrev pending : Option TriggerAction
  pending = get_or x.actions m no_action

  -- the run with the machine, the pending actions and what is shared as they are now
  abbrev pub left_with : MachineRuntime → List (Option TriggerAction) → Shared → Run
  left_with r actions s = record { framework = with_runtime x.framework (set x.framework.runtime m r); actions = actions; shared = s }

  pub turn_stops : {why : ℕ} → choice_at T D kind m x ≡ Err why → machine_turn T D kind machine blocked m x ≡ stop why
  unfolding machine_turn
  turn_stops e = rw (turn_missing E quiet kind blocked falls (runtime_at x.framework m) x.shared pending e)

  module _ {next : Option ℕ} {at : Place} (chosen : choice_at T D kind m x ≡ Ok (draw next at)) where
    pub turn_goes : machine_turn T D kind machine blocked m x
        ≡ stored x m (after_transition E falls (going_at counter_num E next counted (with_place x.shared at) pending))
    unfolding machine_turn
    turn_goes = rw (turn_chosen E quiet kind blocked falls (runtime_at x.framework m) x.shared pending chosen)

    pub turn_counts : only_counts falls next ≡ true
        → machine_turn T D kind machine blocked m x ≡ go (left_with counted x.actions (with_place x.shared at))
    turn_counts idle =
        turn_goes ∙ rw (only E falls next counted (with_place x.shared at) pending idle, set-get_or x.actions m no_action)

    module _ {d : Moved} where
      pub turn_kept : short (states_of T m) D.values E.context falls next counted (with_place x.shared at) ≡ Kept d
          → machine_turn T D kind machine blocked m x
          ≡ go (left_with (runtime_after counted d) x.actions (shared_after (with_place x.shared at) d))
      turn_kept e =
          turn_goes
          ∙ rw (kept_turn counter_num E falls counted (with_place x.shared at) pending next e, set-get_or x.actions m no_action)

      pub turn_acted : {a : TriggerAction} → short (states_of T m) D.values E.context falls next counted (with_place x.shared at) ≡ Acted a d
          → machine_turn T D kind machine blocked m x
          ≡ go (left_with (runtime_after counted d) (set x.actions m (Some a)) (shared_after (with_place x.shared at) d))
      turn_acted e =
          turn_goes ∙ rw (acted_turn counter_num E falls counted (with_place x.shared at) pending next e)
