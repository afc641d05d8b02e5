-- What a verdict says of a certificate.
use Rattle.cls_base.specs.Types.{ClosedType}
use Rattle.cls_library.specs.Libraries.{Library}
use Rattle.cls_proof.specs.Certificates.{Certificate}
use Rattle.cls_check.specs.Checking.{Accepts, Refuses}
use Rattle.cls_engine.specs.declared.verdict.Verdict.{Verdict}
use Rattle.cls_engine.specs.declared.verdict.Verdict.TheVariants.{Accepted, Refused}

abbrev pub IsVerdict : Library → ClosedType → Certificate → Verdict → Type 0
IsVerdict lib asked c Accepted = Accepts lib asked c
IsVerdict lib asked c (Refused row reason) = Refuses lib asked c (row, reason)
