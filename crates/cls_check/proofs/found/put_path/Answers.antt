use Rattle.std.proofs.Common.{List, ℕ, sym, subst}
use Rattle.cls_library.specs.Families.{IsFamilyIn}
use Rattle.cls_library.specs.Reaching.{PathLeIn}
use Rattle.cls_check.specs.Found.{Adds}
use Rattle.cls_check.specs.Places.{arrows_in}
use Rattle.cls_check.proofs.FoundLaws.{adds-family}
use Rattle.cls_check.proofs.found.put_path.Goals as goal

pub returns : goal.returns
returns c = λ _.
    let arrows = arrows_in c.args.lib.now c.args.place in
    let q = c.args.path.now in
    let old = c.args.positions.now.items in
    let leading = c.as_slice-leading.result.now in
    let family : IsFamilyIn c.args.lib.now.taxonomy arrows q leading =
    subst (λ (xs : List ℕ). IsFamilyIn c.args.lib.now.taxonomy arrows q xs) (sym c.as_slice-leading.ensures) c.in_ok-family.ensures in
    subst (λ (new : List ℕ). Adds arrows (λ p. PathLeIn c.args.lib.now p q) old new) (sym c.in_ok-put_all.ensures) (adds-family c.args.lib.now arrows q old leading family)
