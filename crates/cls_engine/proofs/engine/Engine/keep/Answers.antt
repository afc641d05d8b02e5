use Rattle.std.proofs.Common.{◌∙◌, ap, sym, subst}
use Rattle.cls_expand.specs.Answers.{IsAnswer}
use Rattle.cls_expand.specs.Memos.{AreComplete}
use Rattle.cls_library.specs.Libraries.{Library}
use Rattle.cls_live.proofs.Complete.{complete_answered}
use Rattle.cls_engine.specs.Engines.{EngineSeen}
use Rattle.cls_engine.specs.Goals.{same}
use Rattle.cls_engine.proofs.engine.Engine.keep.Goals as goal

pub keep-requires-clause-answered : goal.keep-requires-clause-answered
keep-requires-clause-answered c =
    let kept = c.self.invariant.kept ∙ ap (λ (e : EngineSeen). e.library) c.self.view_is in
    complete_answered c.self.inside.parts.library c.args.rows.now
    (subst (λ (l : Library). AreComplete same (IsAnswer l) c.args.rows.now) (sym kept) c.requires.complete)
