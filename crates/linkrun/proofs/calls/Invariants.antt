use Rattle.std.proofs.Common.{◌+◌, ◌*◌, ◌-◌, ◌≤◌, ◌≡◌, length, drop}
use Rattle.stream.specs.Stream.{call_at}
use Rattle.run.specs.Run.{calls_text, input_text}
use Rattle.linkrun.proofs.calls.Given as goal

abbrev pub invariant-loop-i : goal.invariant-loop-i
invariant-loop-i l =
    record {
      room : length l.text ≡ 671;
      next : l.s.next ≡ call_at l.lent.input.words.now l.i;
      chance : l.s.chance ≤ length l.lent.chances.now;
      value : l.s.value ≤ length l.lent.values.now;
      from : l.handed.from ≤ 671 * (l.i + 1);
      same : l.handed.input.now ≡ l.initial.handed.input.now;
      left : drop l.handed.from (input_text l.initial.handed.input.now) ≡ calls_text l.lent.input.words.now (l.count - l.i) (l.i + 1) l.s;
    }
