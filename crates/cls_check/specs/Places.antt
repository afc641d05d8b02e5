-- internal: components with a number of arguments, as the code has them
use Rattle.std.specs.Prelude.{List}
use Rattle.cls_library.specs.Arrows.{MultiArrow}
use Rattle.cls_library.specs.Libraries.{Library, arrows_at}
use Rattle.cls_proof.specs.Certificates.{Block}
use Rattle.cls_check.specs.declared.place.Place.{Place}
use Rattle.cls_check.specs.Checking.{IsPlace}

abbrev pub Stands : Library → Place → Type 0
Stands l p = IsPlace l p.component p.n

abbrev pub arrows_in : Library → Place → List MultiArrow
arrows_in l p = arrows_at l p.component p.n

abbrev pub block_place : Block → Place
block_place b = record { component = b.component; n = b.n }
