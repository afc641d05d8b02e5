use Rattle.std.proofs.Common.{◌≡◌, ◌≤◌, arith}
use Rattle.cls_expand.proofs.Places.{omega_step, omega_last}
use Rattle.cls_expand.proofs.expander.omega.Goals as goal

pub loop-component-preserved : goal.loop-component-preserved
loop-component-preserved c = omega_step c.loop-component.rules c.push_head.new.self c.new.result.items c.loop-component.component c.new.ensures.items c.in_ok-push_head.ensures.ok c.loop-component.invariant

pub returns : goal.returns
returns c =
    let t : c.args.count ≤ c.loop-component.component = c.loop-component-test.false in
    let u : c.loop-component.component ≤ c.args.count = c.loop-component.auto.component-end in
    let k : c.loop-component.component ≡ c.args.count = omega arith in
    omega_last c.loop-component.rules c.push_any.new.self c.empty.result c.empty-2.result c.loop-component.component c.args.count c.empty.ensures c.empty-2.ensures c.in_ok-push_any.ensures.ok k c.loop-component.invariant
