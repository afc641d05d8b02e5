use Rattle.std.proofs.Common.{ℕ, List, subst}
use Rattle.cls_base.specs.Lists.{AreDistinct}
use Rattle.cls_base.proofs.Lists.{AreDistinct-from_IsDistinct}
use Rattle.cls_taxon.proofs.places.Places.len.Goals as goal

pub returns-clause-distinct : goal.returns-clause-distinct
returns-clause-distinct c = subst (λ (names : List ℕ). AreDistinct names) c.self.view_is (AreDistinct-from_IsDistinct _ c.self.invariant.0)
