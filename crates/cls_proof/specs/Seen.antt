-- The certificate that a value is seen as.
use Rattle.cls_proof.specs.declared.certificate.Certificate as code
use Rattle.cls_proof.specs.declared.certificate.Certificate.TheVariants.{Inhabited, Empty}
use Rattle.cls_proof.specs.Certificates.{Certificate, inhabited, empty}

abbrev pub certificate_of : code.Certificate → Certificate
certificate_of (Inhabited rows) = inhabited rows
certificate_of (Empty members) = empty members
