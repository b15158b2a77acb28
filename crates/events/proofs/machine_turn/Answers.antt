-- `machine_turn` meets its contract, by the choice and by the way that is taken.
use Rattle.std.specs.Prelude.{◌≡◌, true, Ok, Err}
use Rattle.std.proofs.Common.{rules}
use Rattle.refusal.specs.Refusal.{number}
use Rattle.machine.specs.Source.{draw}
use Rattle.machine.specs.Tables.{lent_tables}
use Rattle.moves.specs.Short.{short}
use Rattle.moves.specs.declared.settle.Short.TheVariants.{Kept, Acted}
use Rattle.steps.specs.Transition.{with_place}
use Rattle.steps.specs.Events.{runtime_at, states_of, env_of, counted_by, limit_falls}
use Rattle.account.specs.Account.{only_counts}
use Rattle.events.proofs.Counts.{event_small}
use Rattle.events.proofs.Turns.{choice_at, turn_stops, turn_goes, turn_counts, turn_kept, turn_acted}
use Rattle.events.proofs.machine_turn.Goals as goal

pub choose-requires : goal.choose-requires
choose-requires g c = rw c.event_of-event.ensures (event_small c.args.kind c.requires.known)

pub returns-in_err-choice-clause-is : goal.returns-in_err-choice-clause-is
returns-in_err-choice-clause-is g c =
    let a = c.args in
    let T = lent_tables a.t.now in
    let D = g.D.Draws.source a.draws.now in
    let quiet = g.met.D.Draws.untold a.draws.now in
    let missing : choice_at T D a.kind a.m a.x.now ≡ Err (number c.in_err-choice.field-0.0) = search rules in
    let l = turn_stops T D quiet a.kind a.machine a.blocked a.m a.x.now missing in
    search rules

pub returns-then-only_counts-clause-is : goal.returns-then-only_counts-clause-is
returns-then-only_counts-clause-is g c =
    let a = c.args in
    let T = lent_tables a.t.now in
    let D = g.D.Draws.source a.draws.now in
    let quiet = g.met.D.Draws.untold a.draws.now in
    let next = c.in_ok-choice.choice.value in
    let at = c.in_ok-choice.choice.at in
    let chosen : choice_at T D a.kind a.m a.x.now ≡ Ok (draw next at) = search rules in
    let idle : only_counts (limit_falls a.kind a.machine a.m) next ≡ true = search rules in
    let l = turn_counts T D quiet a.kind a.machine a.blocked a.m a.x.now chosen idle in
    search rules

pub returns-in-Elsewhere-clause-is : goal.returns-in-Elsewhere-clause-is
returns-in-Elsewhere-clause-is g c =
    let a = c.args in
    let T = lent_tables a.t.now in
    let D = g.D.Draws.source a.draws.now in
    let quiet = g.met.D.Draws.untold a.draws.now in
    let next = c.in_ok-choice.choice.value in
    let at = c.in_ok-choice.choice.at in
    let chosen : choice_at T D a.kind a.m a.x.now ≡ Ok (draw next at) = search rules in
    let l = turn_goes T D quiet a.kind a.machine a.blocked a.m a.x.now chosen in
    search rules

pub returns-in-Kept-clause-is : goal.returns-in-Kept-clause-is
returns-in-Kept-clause-is g c =
    let a = c.args in
    let T = lent_tables a.t.now in
    let D = g.D.Draws.source a.draws.now in
    let quiet = g.met.D.Draws.untold a.draws.now in
    let next = c.in_ok-choice.choice.value in
    let at = c.in_ok-choice.choice.at in
    let chosen : choice_at T D a.kind a.m a.x.now ≡ Ok (draw next at) = search rules in
    let counted = counted_by a.kind a.blocked (runtime_at a.x.now.framework a.m) in
    let E = env_of T D a.x.now.framework a.m in
    let short : short (states_of T a.m) D.values E.context (limit_falls a.kind a.machine a.m) next counted (with_place a.x.now.shared at) ≡ Kept c.in-Kept.d = search rules in
    let l = turn_kept T D quiet a.kind a.machine a.blocked a.m a.x.now chosen short in
    search rules

pub returns-in-Acted-clause-is : goal.returns-in-Acted-clause-is
returns-in-Acted-clause-is g c =
    let a = c.args in
    let T = lent_tables a.t.now in
    let D = g.D.Draws.source a.draws.now in
    let quiet = g.met.D.Draws.untold a.draws.now in
    let next = c.in_ok-choice.choice.value in
    let at = c.in_ok-choice.choice.at in
    let chosen : choice_at T D a.kind a.m a.x.now ≡ Ok (draw next at) = search rules in
    let counted = counted_by a.kind a.blocked (runtime_at a.x.now.framework a.m) in
    let E = env_of T D a.x.now.framework a.m in
    let short : short (states_of T a.m) D.values E.context (limit_falls a.kind a.machine a.m) next counted (with_place a.x.now.shared at) ≡ Acted c.in-Acted.p c.in-Acted.d = search rules in
    let l = turn_acted T D quiet a.kind a.machine a.blocked a.m a.x.now chosen short in
    search rules
