-- `run::one_call` meets its contract: the batch of the parts that the words hold, and the text of its answer.
use Rattle.std.proofs.Common.{◌≡◌, ap, ◌∙◌, arith}
use Rattle.steps.specs.Framework.{Batch}
use Rattle.run.specs.Run.{batch_at}
use Rattle.run.proofs.Called.{answered, stood, prints, rows_few}
use Rattle.run.proofs.one_call.Goals as goal

pub returns : goal.returns
returns c =
    let lent = c.args.lent.now in
    let ws = lent.input.words.now in
    let s = c.args.s in
    let call = c.call_at-call in
    let b = c.batch-a in
    let e =
    answered ws s call.result _ _ _ _ _ _ call.ensures c.tables.ensures.machines c.tables.ensures.states c.tables.ensures.transitions c.events_at.ensures lent.chances_are
    lent.values_are in
    let a : b.result ≡ (batch_at ws s).answer = b.ensures.0 ∙ ap (λ (x : Batch). x.answer) e in
    let t = c.call_text-bytes in
    let o = b.ensures.1 ∙ ap (λ (x : Batch). x.out) e in
    let p = prints ws s c.args.i b.result _ _ c.args.line.now t.result a o t.ensures.0 t.ensures.1 in
    record {
      stands = rw (c.further.ensures.is, c.further-2.ensures.is)
          (stood ws s b.result call.result _ _ a call.ensures lent.chances_are lent.values_are);
      text = p.0;
      size = (
        p.1,
        omega (arith, t.ensures.0, rows_few _ _ _ _ _ _ _ b.ensures.0),
        c.further.ensures.within,
        c.further-2.ensures.within,
      );
    }
