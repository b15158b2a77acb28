-- The measure of the three: how many counters may still report zero in this call. A CounterZero transition starts with fewer.
use Rattle.std.specs.Prelude.{◌+◌, ◌*◌}
use Rattle.steps.specs.Transition.{left}
use Rattle.transition.proofs.+going_transition_update_counter.Given as goal

abbrev pub decreases-going : goal.decreases-going
decreases-going g l = left l.d.shared * 3 + 1

abbrev pub decreases-transition : goal.decreases-transition
decreases-transition g l = left l.d.shared * 3 + 2

abbrev pub decreases-update_counter : goal.decreases-update_counter
decreases-update_counter g l = left l.d.shared * 3
