-- The certificate of a type.
use Rattle.std.specs.Prelude.{List}
use Rattle.cls_base.specs.Types.{ClosedType}
use Rattle.cls_cert.specs.Making.{IsMadeFor}
use Rattle.cls_core.specs.Rows.{Row}
use Rattle.cls_library.specs.Libraries.{Library}
use Rattle.cls_proof.specs.Certificates.{Certificate}
use Rattle.cls_engine.specs.Goals.{Goal, IsClosed}

-- The certificate is made from the closure of the type's goal.
abbrev pub IsCertified : Library → ClosedType → Certificate → Type 0
IsCertified lib t c = (rows : List (Row Goal)) × IsClosed lib t rows × IsMadeFor lib rows c
