-- What holds of what an engine answers.
use Rattle.std.specs.Prelude.{◌↔◌}
use Rattle.cls_base.specs.Terms.{Applicative}
use Rattle.cls_base.specs.Types.{ClosedType}
use Rattle.cls_cert.specs.Laws.{IsEmpty}
use Rattle.cls_check.specs.Checking.{Accepts}
use Rattle.cls_library.specs.Libraries.{Library, IsLibrary}
use Rattle.cls_library.specs.Typing.{HasTypeIn}
use Rattle.cls_proof.specs.Certificates.{Certificate}
use Rattle.cls_engine.specs.declared.options.Options.{Options}
use Rattle.cls_engine.specs.Certified.{IsCertified}
use Rattle.cls_engine.specs.Faults.{closure_faults, AreSilent}

-- The certificate of a type that the engine can work on is accepted for this type, and has members if and only if no term
-- has the type.
abbrev pub CertificatesDecide : Type 0
CertificatesDecide =
    (lib : Library) → IsLibrary lib → (o : Options) (t : ClosedType) → AreSilent (closure_faults lib o t)
    → (c : Certificate) → IsCertified lib t c
    → Accepts lib t c × (IsEmpty c ↔ ((e : Applicative) × HasTypeIn lib e t → ⊥))
