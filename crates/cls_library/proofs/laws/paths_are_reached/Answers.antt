use Rattle.cls_library.proofs.LibraryTyping.{paths_are_reached}
use Rattle.cls_library.proofs.laws.paths_are_reached.Goals as goal

pub returns : goal.returns
returns c = paths_are_reached
