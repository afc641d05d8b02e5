use Rattle.std.proofs.Common.{◌≡◌, ◌-◌, ◌<◌, length, take}
use Rattle.std.specs.Prelude.{slice_index_or}
use Rattle.cls_path.specs.Paths.{listed}
use Rattle.cls_library.specs.Arrows.{arrows_of}
use Rattle.cls_library.specs.Families.{IsFamilyIn}
use Rattle.cls_library.specs.Stems.{HoldsLeading}
use Rattle.cls_library.proofs.family.family_in_chain.Given as goal

abbrev pub invariant-loop-place : goal.invariant-loop-place
invariant-loop-place l = record {
  family : IsFamilyIn l.fn.taxonomy (arrows_of l.fn.count (listed (take l.place l.fn.paths))) l.fn.path l.family.items;
  chain :
      (h : HoldsLeading l.fn.taxonomy l.fn.count l.fn.path l.fn.paths l.fn.chains.firsts.items l.fn.chains.next.items l.fn.kind)
      × (l.place < length l.fn.paths → slice_index_or h.kinds l.place 0 ≡ l.fn.kind);
}

abbrev pub decreases-loop-place : goal.decreases-loop-place
decreases-loop-place l = length l.fn.paths - l.place
