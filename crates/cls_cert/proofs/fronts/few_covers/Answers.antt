use Rattle.std.proofs.Common.{subst}
use Rattle.cls_cover.specs.declared.minimal.CoverFault.{CoverFault}
use Rattle.cls_cover.specs.Faults.{AreTooMany, HasCause}
use Rattle.cls_cert.proofs.fronts.few_covers.Goals as goal

pub unreachable-requires : goal.unreachable-requires
unreachable-requires c =
    let f : HasCause c.args.families.now 1024 c.in-Err-TooManyCovers.field-0 = c.in-Err-TooManyCovers.ensures.fault in
    let g : AreTooMany c.args.families.now 1024 c.in-Err-TooManyCovers.field-0-0 = subst (λ (z : CoverFault). HasCause c.args.families.now 1024 z) c.in-Err-TooManyCovers.field-0-is f in
    c.requires.few c.in-Err-TooManyCovers.field-0-0 g.within g.over
