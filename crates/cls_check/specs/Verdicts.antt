-- What a fault says of a certificate. Out of memory says nothing.
use Rattle.std.specs.Prelude.{ℕ, length}
use Rattle.cls_base.specs.Types.{ClosedType}
use Rattle.cls_library.specs.Libraries.{Library}
use Rattle.cls_proof.specs.Certificates.{Certificate, inhabited, empty}
use Rattle.cls_check.specs.declared.fault.CheckFault.{CheckFault}
use Rattle.cls_check.specs.declared.fault.CheckFault.TheVariants.{Refused, OutOfMemory}
use Rattle.cls_check.specs.Checking.{Refuses}

abbrev pub IsRefusedAs : Library → ClosedType → Certificate → CheckFault → Type 0
IsRefusedAs l asked c (Refused row reason) = Refuses l asked c (row, reason)
IsRefusedAs l asked c OutOfMemory = Unit {0}

-- how many rows or members there are
abbrev pub rows_in : Certificate → ℕ
rows_in (inhabited rows) = length rows
rows_in (empty members) = length members
