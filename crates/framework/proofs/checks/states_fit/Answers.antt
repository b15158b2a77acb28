-- `states_fit` meets its contract, a machine at a time: what holds up to a machine, and what fails at one.
use Rattle.std.specs.Prelude.{ℕ, ◌||◌, refl, eqb, ltb}
use Rattle.std.proofs.Common.{rules}
use Rattle.machine.specs.Constants.{state_end, num_states}
use Rattle.machine.specs.Tables.{lent_tables}
use Rattle.steps.specs.Events.{runtime_at, machine_word}
use Rattle.steps.specs.Framework.{states_fit}
use Rattle.events.proofs.All.{all_more, all_fails}
use Rattle.framework.proofs.checks.states_fit.Goals as goal

pub loop-m-init : goal.loop-m-init
unfolding states_fit
loop-m-init c = refl

pub loop-m-preserved : goal.loop-m-preserved
unfolding states_fit
loop-m-preserved c =
    let T = lent_tables c.args.t.now in
    let fw = c.args.fw.now in
    let q = λ (k : ℕ). eqb (runtime_at fw k).current_state state_end || ltb (runtime_at fw k).current_state (machine_word T.machines k num_states) in
    all_more (states_fit T fw) q (λ n. refl) c.loop-m.m c.loop-m.invariant (search rules)

pub returns-then-state-word : goal.returns-then-state-word
unfolding states_fit
returns-then-state-word c =
    let T = lent_tables c.args.t.now in
    let fw = c.args.fw.now in
    let q = λ (k : ℕ). eqb (runtime_at fw k).current_state state_end || ltb (runtime_at fw k).current_state (machine_word T.machines k num_states) in
    let f = all_fails (states_fit T fw) q (λ n. refl) c.loop-m.m c.args.count c.loop-m-test.true c.loop-m.invariant (search rules) in
    search rules
