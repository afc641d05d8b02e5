-- The numbers with which the process ends.
use Rattle.std.specs.Prelude.{ℕ}
use Rattle.cls_session.specs.declared.status.Status.{Status}
use Rattle.cls_session.specs.declared.status.Status.TheVariants.{Done, Usage, Refused, ReadFault, WriteFault, NoMemory, TooLong}

abbrev pub number_of : Status → ℕ
number_of Done = 0
number_of Usage = 1
number_of Refused = 2
number_of ReadFault = 3
number_of WriteFault = 4
number_of NoMemory = 5
number_of TooLong = 6
