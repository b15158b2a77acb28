-- The outcome of a run, as the code answers it.
use Rattle.std.specs.Prelude.{Result, Ok, Err}
use Rattle.refusal.specs.Refusal.{number}
use Rattle.refusal.specs.declared.Refusal.{Refusal}
use Rattle.steps.specs.Events.{Outcome, stop, go}
use Rattle.steps.specs.declared.Run.{Run}

-- of a run that comes back
abbrev pub outcome_of : Result Run Refusal → Outcome
outcome_of (Err r) = stop (number r)
outcome_of (Ok x) = go x

-- of a run that was lent, as it is afterwards
abbrev pub left_as : {A : Type 0} → Result A Refusal → Run → Outcome
left_as (Err r) x = stop (number r)
left_as (Ok a) x = go x
