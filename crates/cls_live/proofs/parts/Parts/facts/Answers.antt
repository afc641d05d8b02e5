use Rattle.std.proofs.Common.{subst}
use Rattle.cls_live.specs.Parts.{AreParts, PartsSeen}
use Rattle.cls_live.proofs.Keeping.{seen_parts}
use Rattle.cls_live.proofs.parts.Parts.facts.Goals as goal

pub returns : goal.returns
returns c =
    let i = c.self.inside in
    subst (λ (p : PartsSeen). AreParts p) c.self.view_is
    (seen_parts i.library.value i.live.items i.next i.count i.goals.keys i.known.items c.self.invariant)
