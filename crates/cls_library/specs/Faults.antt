-- The fault of a library that a fault of its kinds is.
use Rattle.cls_kind.specs.declared.fault.KindFault.{KindFault}
use Rattle.cls_kind.specs.declared.fault.KindFault.TheVariants as kind_faults
use Rattle.cls_library.specs.declared.fault.LibraryKind.{LibraryKind}
use Rattle.cls_library.specs.declared.fault.LibraryKind.TheVariants.{Kind, OutOfMemory}

-- out of memory is one of its own
abbrev pub kind_of_fault : KindFault → LibraryKind
kind_of_fault kind_faults.OutOfMemory = OutOfMemory
kind_of_fault fault = Kind fault
