-- `put_rows` meets its contract. The loop's invariant: the rows of the first m machines are written, `at` is where
-- they end, and what came after them stands.
use Prim.Native.Nat.{ℕ, ◌/◌, ◌≤◌}
use mathlib.Core.Path.{◌≡◌, refl, ap, ◌∙◌}
use native.Mathlib.Omega.{arith}
use lib.ListN.{length, get_or, length-take, length-drop}
use Rattle.steps.specs.Transition.{no_action}
use Rattle.steps.specs.Framework.{action_rows, written}
use Rattle.framework.proofs.Written.{row_short, rows_longer, row_written, same}
use Rattle.framework.proofs.output.put_rows.Goals as goal

pub loop-m-init : goal.loop-m-init
unfolding action_rows
loop-m-init c = (omega arith, refl, omega arith, refl, refl)

pub put_row-at-requires : goal.put_row-at-requires
put_row-at-requires c =
    let loop-test = c.loop-m-test in
    let loop = c.loop-m in
    let pre = c.requires in
    simp (length-take, length-drop) (omega (arith, loop-test.true, loop.invariant.2, loop.invariant.3, pre.1))

pub overflow_add-at : goal.overflow_add-at
overflow_add-at c =
    let put-row = c.put_row-at in
    let loop-test = c.loop-m-test in
    let loop = c.loop-m in
    let c₁ = c in
    let args = c₁.args in
    let pre = c₁.requires in
    let short = row_short loop.m (get_or args.actions.now loop.m no_action) in
    omega (arith, put-row.ensures.0, short, loop-test.true, loop.invariant.2, pre.0)

pub loop-m-preserved : goal.loop-m-preserved
loop-m-preserved c =
    let put-row = c.put_row-at in
    let loop-test = c.loop-m-test in
    let loop = c.loop-m in
    let c₁ = c in
    let args = c₁.args in
    let pre = c₁.requires in
    let a = args.actions.now in
    let m = loop.m in
    let fits : loop.at ≤ length loop.out = omega (arith, loop-test.true, loop.invariant.2, loop.invariant.3, pre.1) in (
      omega (arith, loop-test.true),
      omega (arith, put-row.ensures.0, rows_longer a m, loop.invariant.1),
      omega (arith, put-row.ensures.0, row_short m (get_or a m no_action), loop.invariant.2),
      same loop.out put-row.new.row loop.at fits put-row.auto.row ∙ loop.invariant.3,
      row_written a m args.out.now loop.out put-row.new.row loop.at loop.invariant.1 loop.invariant.4
          put-row.ensures.1,
    )

pub shape_of-out : goal.shape_of-out
shape_of-out c = c.loop-m.invariant.3

pub returns : goal.returns
returns c =
    let loop = c.loop-m in
    let args = c.args in
    let e : loop.m ≡ args.count = omega arith in (
      ap (λ (n : ℕ). n / 6) (loop.invariant.1 ∙ ap (λ (n : ℕ). length (action_rows args.actions.now n)) e),
      loop.invariant.4 ∙ ap (λ (n : ℕ). written (action_rows args.actions.now n) args.out.now) e,
    )
