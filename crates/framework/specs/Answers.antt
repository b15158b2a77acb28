-- The answers of an opening and of a batch, by the error that stopped them.
use Rattle.std.specs.Prelude.{[], ℕ, Result, Ok, Err}
use Rattle.refusal.specs.Refusal.{number}
use Rattle.refusal.specs.declared.Refusal.{Refusal}
use Rattle.machine.specs.declared.source.Draw.{Draw}
use Rattle.steps.specs.Events.{stop}
use Rattle.steps.specs.Framework.{opened_by, refused}
use Rattle.steps.specs.declared.Answer.{Answer}
use Rattle.steps.specs.declared.Framework.{Framework}
use Rattle.steps.specs.declared.Opened.{Opened}
use Rattle.steps.specs.declared.Run.{Run}

-- an opening that gave a framework, and where the draws went on
abbrev pub opened : Result (Draw Framework) Refusal → Opened
opened (Err r) = opened_by (stop (number r))
opened (Ok d) = record { refusal = 0; chance_used = d.at.chance_at; value_used = d.at.value_at; framework = d.value }

-- a batch on the framework fw, which left the run x: how many rows it wrote
abbrev pub answered : Framework → Run → Result ℕ Refusal → Answer
answered fw x (Err r) = (refused fw [] (number r)).answer
answered fw x (Ok n) = record {
  refusal = 0;
  actions = n;
  chance_used = x.shared.place.chance_at;
  value_used = x.shared.place.value_at;
  framework = x.framework;
}
