use Rattle.std.proofs.Common.{sym, ap, ◌∙◌}
use Rattle.cls_path.specs.Paths.{listed}
use Rattle.cls_expand.proofs.Sources.{source_missing}
use Rattle.cls_expand.proofs.arguments.source_at.Goals as goal

pub returns-in-None : goal.returns-in-None
returns-in-None c = ap listed c.empty.ensures ∙ sym (source_missing c.args.arrow.now.sources c.args.place c.in-None.ensures)
