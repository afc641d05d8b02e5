use Rattle.std.proofs.Common.{sym, subst}
use Rattle.cls_core.specs.Closure.{IsClosure}
use Rattle.cls_callers.specs.declared.goal.AskGoal.TheVariants.{Root}
use Rattle.cls_callers.specs.AskGoals.{ask_eq}
use Rattle.cls_callers.specs.Asking.{IsAskAnswer}
use Rattle.cls_callers.proofs.closures.AskedClosures.new.Goals as goal

pub invariant_of-result : goal.invariant_of-result
invariant_of-result g c =
    subst (IsClosure (ask_eq g.E.Goal.PartialEq.eq) (IsAskAnswer g.E.Expand.answers c.args.by.now) Root) (sym c.in_ok-known.ensures) c.requires
