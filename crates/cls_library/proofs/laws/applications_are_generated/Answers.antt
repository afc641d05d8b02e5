use Rattle.cls_library.proofs.LibraryTyping.{applications_are_generated}
use Rattle.cls_library.proofs.laws.applications_are_generated.Goals as goal

pub returns : goal.returns
returns c = applications_are_generated
