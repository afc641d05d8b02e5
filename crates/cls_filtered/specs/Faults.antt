-- What a fault says.
use Rattle.cls_filtered.specs.declared.fault.FilterFault.{FilterFault}
use Rattle.cls_filtered.specs.declared.fault.FilterFault.TheVariants.{OutOfMemory, TooManyRules}

-- where there are too many rules, the fact holds
abbrev pub IfTooManyRules : FilterFault → Type 0 → Type 0
IfTooManyRules OutOfMemory P = Unit {0}
IfTooManyRules TooManyRules P = P
