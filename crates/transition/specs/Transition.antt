-- The parts of a transition that follow its choice, as definitions of their own, and laws for callers. Assumes nothing.
use Rattle.std.specs.Prelude.{Float}
use Rattle.std.specs.Prelude.{Result, Ok, Err, Option, None}
use Rattle.machine.specs.declared.source.Draw.{Draw}
use Rattle.steps.specs.declared.Step.{Step}
use Rattle.std.specs.Prelude.{ℕ, ◌+◌, ◌≤◌, Bool, true, false, cond, ◌||◌, ◌≡◌, refl, eqb}
use Rattle.std.proofs.Common.{arith}
use Rattle.machine.specs.Constants.{counter_num, state_end}
use Rattle.machine.specs.Event.{event_of}
use Rattle.machine.specs.Source.{draw, chance_draw}
use Rattle.machine.specs.State.{state_row, count_of}
use Rattle.machine.specs.declared.source.Place.{Place}
use Rattle.moves.specs.Choice.{idle, chosen_by, choose}
use Rattle.steps.specs.Events.{counted_by, after_transition, turn}
use Rattle.steps.specs.Transition.{Env, with_place, done, going, drawn, transition_by, unspent, left, zero_transition, transition_at}
use Rattle.steps.specs.declared.MachineRuntime.{MachineRuntime}
use Rattle.steps.specs.declared.Shared.{Shared}
use Rattle.steps.specs.declared.TriggerAction.{TriggerAction}

-- after a choice, where n counters may still report zero
unfoldable pub going_at : ℕ → Env → Option ℕ → MachineRuntime → Shared → Option TriggerAction → Result Step ℕ
going_at n E next r s p = going (zero_transition n E) E r s p next

-- each counter reports once at the most: the number that a caller of `transition` gives
pub at_most : (s : Shared) → left s ≤ counter_num
at_most s = either s.zeroed.counter_a s.zeroed.counter_b
  where
    either : (a b : Bool) → unspent a + unspent b ≤ 2
    either true true = omega arith
    either true false = omega arith
    either false true = omega arith
    either false false = omega arith

-- ---- a transition is what follows its choice, of a source that does nothing at an attempt
abbrev pub Quiet : Env → Type 0
Quiet E = (event machine : ℕ) (at : Place) → E.source.attempt event machine at ≡ at

module _ (zero_transition : MachineRuntime → Shared → Option TriggerAction → Result Step ℕ) (E : Env) where
  abbrev pub on_choice : MachineRuntime → Shared → Option TriggerAction → Result (Draw (Option ℕ)) ℕ → Result Step ℕ
  on_choice r s p (Err n) = Err n
  on_choice r s p (Ok d) = going zero_transition E r (with_place s d.at) p d.value

  module _ (event : ℕ) (r : MachineRuntime) (s : Shared) (p : Option TriggerAction) where
    after : (d : Result (Draw Float) ℕ) →
        drawn zero_transition E (state_row E.rows r.current_state) event r s p d
        ≡ on_choice r s p (chosen_by (state_row E.rows r.current_state) E.transitions event d)
    after (Err n) = refl
    after (Ok d) = refl

    either : (ended none : Bool) (d : Result (Draw Float) ℕ) →
        cond ended (done r s p false)
        (cond none (done r s p false) (drawn zero_transition E (state_row E.rows r.current_state) event r s p d))
        ≡ on_choice r s p
        (cond (ended || none) (Ok (draw None s.place))
        (chosen_by (state_row E.rows r.current_state) E.transitions event d))
    either true none d = refl
    either false true d = refl
    either false false d = after d

    pub transition_is : Quiet E →
        transition_by zero_transition E event r s p
        ≡ on_choice r s p (choose E.rows E.transitions E.source.chance r.current_state event s.place)
    unfolding transition_by choose idle
    transition_is quiet =
        rw (quiet event E.context.machine s.place)
        (either (eqb r.current_state state_end) (eqb (count_of (state_row E.rows r.current_state) event) 0)
        (chance_draw E.source.chance s.place))

pub transition_by_lem : (n : ℕ) (E : Env) → Quiet E → (event : ℕ) (r : MachineRuntime) (s : Shared) (p : Option TriggerAction) {x : Result (Draw (Option ℕ)) ℕ} →
    choose E.rows E.transitions E.source.chance r.current_state event s.place ≡ x →
    transition_at n E event r s p ≡ on_choice (zero_transition n E) E r s p x
transition_by_lem n E quiet event r s p e = rw (transition_is (zero_transition n E) E event r s p quiet, e)

-- what a turn is, by its choice
module _ (E : Env) (quiet : Quiet E) (kind blocked : ℕ) (falls : Bool) (r : MachineRuntime) (s : Shared) (p : Option TriggerAction) where
  turn_by : (x : Result (Draw (Option ℕ)) ℕ) → choose E.rows E.transitions E.source.chance r.current_state (event_of kind) s.place ≡ x →
      turn E kind falls blocked r s p ≡ after_transition E falls (on_choice (zero_transition counter_num E) E (counted_by kind blocked r) s p x)
  unfolding turn
  turn_by x e = rw (transition_by_lem counter_num E quiet (event_of kind) (counted_by kind blocked r) s p e)

  pub turn_missing : {why : ℕ} →
      choose E.rows E.transitions E.source.chance r.current_state (event_of kind) s.place ≡ Err why →
      turn E kind falls blocked r s p ≡ Err why
  turn_missing e = turn_by (Err _) e

  pub turn_chosen : {next : Option ℕ} {at : Place} →
      choose E.rows E.transitions E.source.chance r.current_state (event_of kind) s.place ≡ Ok (draw next at) →
      turn E kind falls blocked r s p
      ≡ after_transition E falls (going_at counter_num E next (counted_by kind blocked r) (with_place s at) p)
  unfolding going_at
  turn_chosen e = turn_by (Ok (draw _ _)) e
