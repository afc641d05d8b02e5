use Rattle.std.proofs.Common.{inl, inr}
use Rattle.cls_walk.proofs.RunSteps.{run-same, run-next, differ_by}
use Rattle.cls_walk.proofs.run.with_head.Goals as goal

pub returns-then-run-arguments : goal.returns-then-run-arguments
returns-then-run-arguments c = λ f ns hs l w sum h.
    run-same f c.args.run.component c.args.run.arguments c.args.run.best c.args.run.total c.args.component c.args.arguments c.args.ways c.greater.result sum ns hs c.if-run-component.true c.if-run-arguments.true l w c.greater.ensures h

pub returns : goal.returns
returns c = λ f ns hs l w sum h.
    run-next f c.args.run.component c.args.run.arguments c.args.run.best c.args.run.total c.args.component c.args.arguments c.args.ways c.plus.result sum ns hs (differ_by c.args.run.component c.args.component c.args.run.arguments c.args.arguments (λ p q. elim c.else-run-component.either [ inl z ↦ z.1 q | inr z ↦ z p ])) l w c.plus.ensures h
