use Rattle.text.proofs.Lines.{Lined}
use Rattle.text.proofs.call_text.Given as goal

abbrev pub invariant-loop-i : goal.invariant-loop-i
invariant-loop-i l = Lined l.call l.refusal l.actions l.rows l.initial.out l.i l.out
