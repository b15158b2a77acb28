-- `linkrun::calls` meets its contract: what is left of the input's text behind the bytes handed over is what the calls that are
-- left print.
use Rattle.std.proofs.Common.{ℕ, ◌+◌, ◌-◌, refl, sym, ap, ◌∙◌, arith, drop, length-take}
use native.Mathlib.Nat.{sub-zero}
use Rattle.stream.specs.Stream.{call_at}
use Rattle.stream.specs.Inside.{call_inside, calls_few}
use Rattle.run.specs.declared.Standing.{Standing}
use Rattle.run.specs.Run.{calls_text, input_text, printed}
use Rattle.linkrun.proofs.Parts.{turn, part, behind, none_left, next_is}
use Rattle.linkrun.proofs.calls.Goals as goal

pub loop-i-init : goal.loop-i-init
unfolding call_at
loop-i-init c =
    let r = c.requires in
    let ws = c.args.lent.now.input.words.now in
    record {
      room = refl;
      next = r.stands.0;
      chance = r.stands.1;
      value = r.stands.2;
      from = r.left.0;
      same = refl;
      left = r.left.1 ∙ ap (λ (n : ℕ). calls_text ws n 1 c.args.opened) (sym c.word-count.ensures ∙ sym (sub-zero _));
    }

pub one_call-r-requires-clause-next : goal.one_call-r-requires-clause-next
one_call-r-requires-clause-next c =
    let l = c.loop-i in
    let input = c.args.lent.now.input in
    rw l.invariant.next (call_inside input.words.now l.i input.accepted (omega (arith, c.word-count.ensures, c.loop-i-test.true)))

pub hand_over-requires-clause-next : goal.hand_over-requires-clause-next
hand_over-requires-clause-next c =
    let o = c.one_call-r.ensures in
    let l = c.loop-i in
    let ws = c.args.lent.now.input.words.now in
    rw l.invariant.same
    (part (printed ws (l.i + 1) l.s) _ l.text _ (drop l.handed.from (input_text c.args.handed.now.input.now)) _ o.text o.size.0
    (turn ws _ c.word-count.result l.i l.s c.loop-i-test.true l.invariant.left))

pub hand_over-requires-clause-fits : goal.hand_over-requires-clause-fits
hand_over-requires-clause-fits c =
    let input = c.args.lent.now.input in
    simp length-take
    (omega (arith, c.one_call-r.ensures.size.1, c.loop-i.invariant.from, c.loop-i-test.true, c.word-count.ensures, calls_few input.words.now input.accepted, c.requires.few))

pub loop-i-preserved : goal.loop-i-preserved
unfolding call_at
loop-i-preserved c =
    let r = c.one_call-r in
    let o = r.ensures in
    let h = c.hand_over.ensures in
    let l = c.loop-i in
    let n = c.word-count.result in
    let ws = c.args.lent.now.input.words.now in
    let text = input_text c.args.handed.now.input.now in
    let e = turn ws (drop l.handed.from text) n l.i l.s c.loop-i-test.true l.invariant.left in
    record {
      room = r.auto.line ∙ l.invariant.room;
      next = next_is ws l.i l.s r.result.stands o.stands l.invariant.next;
      chance = o.size.2;
      value = o.size.3;
      from = omega (arith, o.size.1, l.invariant.from, simp length-take at h.further);
      same = h.same ∙ l.invariant.same;
      left = behind (printed ws (l.i + 1) l.s) _ l.text _ text l.handed.from r.result.bytes _ o.text o.size.0 e h.further
          ∙ ap (λ (x : Standing). calls_text ws (n - (l.i + 1)) (l.i + 1 + 1) x) (sym o.stands);
    }

pub returns : goal.returns
returns c =
    let l = c.loop-i in
    l.invariant.left ∙ none_left c.args.lent.now.input.words.now (c.word-count.result - l.i) (l.i + 1) l.s (omega (arith, c.loop-i-test.false))
