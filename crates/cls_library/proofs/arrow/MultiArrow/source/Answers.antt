use Rattle.std.proofs.Common.{◌∙◌, ap}
use Rattle.std.specs.Prelude.{slice_get}
use Rattle.cls_library.specs.Arrows.{MultiArrow}
use Rattle.cls_library.specs.Splits.{source_at}
use Rattle.cls_library.proofs.Places.{source-behind, source-within, source-past}
use Rattle.cls_library.proofs.arrow.MultiArrow.source.Goals as goal

pub returns-then-i-self : goal.returns-then-i-self
returns-then-i-self c =
    c.leading_source.ensures ∙ ap (source_at 0) c.target_of.ensures ∙ source-behind c.args.i c.self.inside.path.now
    ∙ source-within c.self.inside.count c.args.i c.self.inside.path.now c.if-i-self.true
    ∙ ap (λ (a : MultiArrow). slice_get a.sources c.args.i) c.self.view_is

pub returns-else-i-self : goal.returns-else-i-self
returns-else-i-self c =
    source-past c.self.inside.count c.args.i c.self.inside.path.now c.if-i-self.false
    ∙ ap (λ (a : MultiArrow). slice_get a.sources c.args.i) c.self.view_is
