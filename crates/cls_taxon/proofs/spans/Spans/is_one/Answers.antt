use Rattle.std.proofs.Common.{subst}
use Rattle.cls_taxon.specs.Spans.{HaveOne}
use Rattle.cls_taxon.proofs.spans.Spans.is_one.Goals as goal

pub returns : goal.returns
returns c = λ t. subst (λ x. HaveOne x) c.as_slice.ensures.items (c.have_one.ensures t)
