-- One machine's steps keep its packet counts, p and n, and a SendPadding is pending after them only
-- where one was before or where below_limit_padding passed at these counts: `W` stands for that. An
-- instance of the walk. Assumes nothing.
use Rattle.std.specs.Prelude.{ℕ, ◌<◌, Bool, true, false, Option, Some, None, List, ◌≡◌, T, eqb}
use Rattle.std.proofs.Common.{sym, ◌∙◌, subst, eqb→eq}
use Rattle.machine.specs.Constants.{send_padding}
use Rattle.machine.specs.Source.{Telling}
use Rattle.samples.specs.Action.{action_of}
use Rattle.steps.specs.Limits.{below_limit_padding, below_action_limits}
use Rattle.steps.specs.Transition.{Env}
use Rattle.steps.specs.Draws.{by_told}
use Rattle.steps.specs.Walk.{Kept, Closed, row_of}
use Rattle.steps.specs.declared.MachineRuntime.{MachineRuntime}
use Rattle.steps.specs.declared.Context.{Context}
use Rattle.steps.specs.declared.TriggerAction.{TriggerAction}

abbrev pub is_padding : Option TriggerAction → Bool
is_padding None = false
is_padding (Some a) = eqb a.kind send_padding

-- ---- the counts of a machine, what its pending action may be, and the numbers of refusals
abbrev pub Has : ℕ → ℕ → MachineRuntime → Type 0
Has p n r = (r.counts.padding_sent ≡ p) × (r.counts.normal_sent ≡ n)

abbrev pub May : Type 0 → Option TriggerAction → Type 0
May W a = T (is_padding a) → W

abbrev pub Told : ℕ → Type 0
Told n = 0 < n

abbrev pub kept : ℕ → ℕ → Type 0 → Kept
kept p n W = record { RefusedBy = Told; Machine = Has p n; Action = May W; Signal = λ pending. Unit }

-- ---- a SendPadding that is below its limits passed below_limit_padding
judged : (c : Context) (r : MachineRuntime) (row : List ℕ) → below_action_limits c r row ≡ true
    → T (eqb (action_of row) send_padding)
    → below_limit_padding c r ≡ true
judged c r row h t = sym (padding-limit (eqb→eq (action_of row) send_padding t)) ∙ h
  where
    padding-limit : action_of row ≡ send_padding → below_action_limits c r row ≡ below_limit_padding c r
    padding-limit e = unfold below_action_limits in rw e

pub closed : (E : Env) → Telling E.source → (p n : ℕ) (W : Type 0)
    → ((r : MachineRuntime) → Has p n r → below_limit_padding E.context r ≡ true → W)
    → Closed E (kept p n W)
closed E tells p n W w = record {
  refuses = by_told E.source tells;
  enters = λ r next limit h c. h;
  ends = λ r h l. h;
  falls = λ r h. h;
  counters = λ r c h. h;
  schedules = λ r a h l below g t.
      w r h (judged E.context r (row_of E r) below (subst (λ (k : ℕ). T (eqb k send_padding)) g.kind t));
  clears = λ t. absurd t;
  raises = λ pending h. h;
}
