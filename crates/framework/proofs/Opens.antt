-- The opening, a machine at a time.
use Rattle.machine.specs.declared.source.Place.{Place}
use Rattle.steps.specs.Transition.{with_place}
use Rattle.steps.specs.Framework.{shared_from, no_actions}
use Rattle.steps.specs.declared.Framework.{Framework}
use Rattle.steps.specs.declared.Run.{Run}

-- so far: no actions, the draws up to `at` taken
abbrev pub opens : Framework → Place → Run
opens fw at = record { framework = fw; actions = no_actions; shared = with_place (shared_from 0) at }
