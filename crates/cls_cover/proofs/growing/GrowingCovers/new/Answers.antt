use Rattle.std.proofs.Common.{List, ℕ, IfSome, sym, subst}
use Rattle.cls_cover.specs.Sets.{AreSetsOf}
use Rattle.cls_cover.proofs.Fronts.{small_start}
use Rattle.cls_cover.proofs.growing.GrowingCovers.new.Goals as goal

pub returns-in_ok-small-in-Some : goal.returns-in_ok-small-in-Some
returns-in_ok-small-in-Some c = λ limit p.
    let fs = c.args.families.now in
    let given : AreSetsOf fs c.in-Some.sets.items = subst (λ found. IfSome found (λ sets. AreSetsOf fs sets.items)) c.in-Some.is c.in_ok-found.ensures in
    let made = c.in_ok-small-in-Some.ensures in
    small_start fs limit c.in_ok-small-in-Some.small p (subst (λ (l : List ℕ). AreSetsOf fs l) (sym made.sets) given) made.seen made.list

pub returns-in_ok-large-in-None : goal.returns-in_ok-large-in-None
returns-in_ok-large-in-None c = c.in_ok-large-in-None.ensures
