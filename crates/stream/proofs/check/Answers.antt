-- `stream::check` meets its contract: the end of the last call decides, and then the chance words.
use Rattle.std.proofs.Common.{◌≡◌, ap, sym, ◌∙◌, length, arith}
use Rattle.stream.specs.declared.Layout.{Layout}
use Rattle.stream.specs.Inside.{in_order}
use Rattle.stream.proofs.Clip.{exact, ends, wrong_end, right_end}
use Rattle.stream.proofs.Chances.{all_narrow}
use Rattle.stream.proofs.check.Goals as goal

pub returns-then-end-words : goal.returns-then-end-words
returns-then-end-words c =
    let ws = c.args.words.now in
    let n = c.calls_end-end in
    let t = c.if-end-words.true in
    wrong_end ws n.result n.ensures (λ e. omega (arith, t, e))

pub between-requires : goal.between-requires
between-requires c =
    let ws = c.args.words.now in
    let n = c.calls_end-end in
    let h : n.result ≡ length ws = omega (arith, c.if-end-words.false) in
    let e = ends ws n.result n.ensures h in
    let l = c.places-l.ensures ∙ exact ws e in
    let o = in_order ws e in
    omega (arith, ap (λ (p : Layout). p.chances) l, ap (λ (p : Layout). p.values) l)

pub returns-then-narrow : goal.returns-then-narrow
returns-then-narrow c =
    let ws = c.args.words.now in
    let n = c.calls_end-end in
    let h : n.result ≡ length ws = omega (arith, c.if-end-words.false) in
    let b = sym (all_narrow c.between.result.now) ∙ sym c.narrow.ensures ∙ c.if-narrow.true in
    let l = c.places-l in
    right_end ws n.result n.ensures _ l.result _ h l.ensures c.between.ensures b

pub returns : goal.returns
returns c =
    let ws = c.args.words.now in
    let n = c.calls_end-end in
    let h : n.result ≡ length ws = omega (arith, c.if-end-words.false) in
    let b = sym (all_narrow c.between.result.now) ∙ sym c.narrow.ensures ∙ c.if-narrow.false in
    let l = c.places-l in
    right_end ws n.result n.ensures _ l.result _ h l.ensures c.between.ensures b
