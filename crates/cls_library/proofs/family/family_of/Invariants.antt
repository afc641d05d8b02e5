use Rattle.std.proofs.Common.{map, take}
use Rattle.std.specs.Prelude.{slice_index_or}
use Rattle.cls_path.specs.Paths.{unit}
use Rattle.cls_library.specs.Families.{IsFamilyIn}
use Rattle.cls_library.specs.Splits.{split_at}
use Rattle.cls_library.proofs.family.family_of.Given as goal

abbrev pub invariant-loop-i : goal.invariant-loop-i
invariant-loop-i l = IsFamilyIn l.fn.taxonomy (map (λ k. split_at l.fn.count (slice_index_or l.fn.paths k unit)) (take l.i l.column)) l.fn.path l.family.items
