use Rattle.cls_library.proofs.Removing.{removing}
use Rattle.cls_library.proofs.laws.removing_makes_libraries.Goals as goal

pub returns : goal.returns
returns c = removing
