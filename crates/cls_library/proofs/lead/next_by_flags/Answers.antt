use Rattle.std.proofs.Common.{◌<◌, inl, inr, length, arith}
use Rattle.cls_library.proofs.Passing.{component-passed, place-found}
use Rattle.cls_library.proofs.lead.next_by_flags.Goals as goal
use Rattle.cls_library.proofs.lead.next_by_flags.Goals.{then-may_lead+in_default, else-may_lead}

pub returns-in-Some : goal.returns-in-Some
returns-in-Some c =
    let loop = c.loop-component in
    let e = c.count-component-end.ensures.count in
    let f = c.loop-component-test.true in
    let declared : loop.component < length c.args.lib.now.components = omega arith in
    place-found c.args.lib.now c.args.sought c.args.from loop.component loop.count loop.auto.component loop.invariant.passed declared loop.invariant.later c.in-Some.place c.in-Some.ensures

pub loop-component-preserved : goal.loop-component-preserved
loop-component-preserved c =
    let loop = c.loop-component in
    let from = loop.auto.component in
    record {
      later = λ before. elim before [ inl m ↦ omega arith | inr m ↦ (let e = m.0 in omega arith) ];
      passed = component-passed c.args.lib.now c.args.sought c.args.from loop.component loop.count from loop.invariant.passed
          (λ k a b. elim c.if-may_lead.branch [
            | then-may_lead+in_default w ↦ w.in_default.ensures k a b
            | else-may_lead w ↦ (λ q s. c.may_lead.ensures w.if-may_lead.false q s k)
          ]);
    }
