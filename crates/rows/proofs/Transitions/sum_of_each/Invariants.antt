use Rattle.std.proofs.Common.{◌≡◌, length}
use Rattle.std.specs.List.{concat}
use Rattle.rows.specs.Row.{row_refusal}
use Rattle.rows.proofs.Rows.{rest}
use Rattle.rows.proofs.Transitions.sum_of_each.Given as goal

abbrev pub invariant-loop-i : goal.invariant-loop-i
invariant-loop-i g l =
    g.S.Seen.Holds l.met (concat l.row) l.self.states l.i
    × (row_refusal (concat l.row) l.self.states 0 (length l.row) ≡ rest (concat l.row) l.self.states (length l.row) l.i l.sum)
