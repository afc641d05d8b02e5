use Rattle.std.proofs.Common.{take}
use Rattle.cls_library.specs.Families.{AreFamilies}
use Rattle.cls_library.specs.Libraries.{arrows_at}
use Rattle.cls_expand.proofs.expander.families_of.Given as goal

abbrev pub invariant-loop-path : goal.invariant-loop-path
invariant-loop-path l = AreFamilies l.lib (arrows_at l.lib l.x l.n) (take l.path-index l.goal) l.families.items
