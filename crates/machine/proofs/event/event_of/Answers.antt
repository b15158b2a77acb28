-- `event_of` meets its contract: the code's test is that of the definition. Assumes nothing.
use borrow.Author.Tests.{lt-ltb, le-ltb}
use Rattle.machine.specs.Event.{event_of}
use Rattle.machine.proofs.event.event_of.Goals as goal

pub returns-then-kind-lt-LIMIT_REACHED : goal.returns-then-kind-lt-LIMIT_REACHED
unfolding event_of
returns-then-kind-lt-LIMIT_REACHED c = rw (lt-ltb _ _ c.if-kind-lt-LIMIT_REACHED.true)

pub returns-else-kind-lt-LIMIT_REACHED : goal.returns-else-kind-lt-LIMIT_REACHED
unfolding event_of
returns-else-kind-lt-LIMIT_REACHED c = rw (le-ltb _ _ c.if-kind-lt-LIMIT_REACHED.false)
