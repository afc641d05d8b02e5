-- What a fault says.
use Rattle.cls_enum.specs.declared.fault.PageFault.{PageFault}
use Rattle.cls_enum.specs.declared.fault.PageFault.TheVariants.{OutOfMemory, TooManyTerms}

-- where there are too many terms, the fact holds
abbrev pub IfTooMany : PageFault → Type 0 → Type 0
IfTooMany OutOfMemory P = Unit {0}
IfTooMany TooManyTerms P = P
