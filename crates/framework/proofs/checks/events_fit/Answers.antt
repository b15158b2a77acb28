-- `events_fit` meets its contract, an event at a time.
use Rattle.std.specs.Prelude.{ℕ, ◌/◌, length, refl, leb}
use Rattle.std.proofs.Common.{rules}
use Rattle.machine.specs.Event.{timer_end_kind}
use Rattle.steps.specs.Events.{kind_at}
use Rattle.steps.specs.Framework.{kinds_fit, events_fit}
use Rattle.events.proofs.All.{all_more, all_fails}
use Rattle.framework.proofs.checks.events_fit.Goals as goal

pub returns-then-events-ne0 : goal.returns-then-events-ne0
unfolding events_fit
returns-then-events-ne0 c = search rules

pub loop-i-init : goal.loop-i-init
unfolding kinds_fit
loop-i-init c = refl

pub loop-i-preserved : goal.loop-i-preserved
unfolding kinds_fit
loop-i-preserved c =
    let es = c.args.events.now in
    all_more (kinds_fit es) (λ (k : ℕ). leb (kind_at es k) timer_end_kind) (λ n. refl) c.loop-i.i c.loop-i.invariant (search rules)

pub returns-then-events-i-gt-TIMER_END_KIND : goal.returns-then-events-i-gt-TIMER_END_KIND
unfolding kinds_fit events_fit
returns-then-events-i-gt-TIMER_END_KIND c =
    let es = c.args.events.now in
    let f = all_fails (kinds_fit es) (λ (k : ℕ). leb (kind_at es k) timer_end_kind) (λ n. refl) c.loop-i.i (length es / 2) c.loop-i-test.true c.loop-i.invariant (search rules) in
    search rules

pub returns : goal.returns
unfolding events_fit
returns c = search rules
