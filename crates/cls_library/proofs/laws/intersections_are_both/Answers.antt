use Rattle.cls_library.proofs.LibraryTyping.{intersections_are_both}
use Rattle.cls_library.proofs.laws.intersections_are_both.Goals as goal

pub returns : goal.returns
returns c = intersections_are_both
