use Rattle.std.proofs.Common.{◌≡◌, take}
use Rattle.std.specs.Prelude.{map}
use Rattle.cls_cover.specs.Growing.{sets}
use Rattle.cls_cover.proofs.large.positions_of.Given as goal

abbrev pub invariant-loop-cover : goal.invariant-loop-cover
invariant-loop-cover l = map (λ v. v.items) l.lists.items ≡ sets (take l.cover-index l.list)
