-- What a fault says, and what follows from it.
use Rattle.std.specs.Prelude.{Result, Ok, Err, IfErr}
use Rattle.cls_filtered.specs.declared.fault.FilterFault.{FilterFault}
use Rattle.cls_filtered.specs.declared.fault.FilterFault.TheVariants.{OutOfMemory, TooManyRules}
use Rattle.cls_filtered.specs.Faults.{IfTooManyRules}

pub many-weaker : (e : FilterFault) (P Q : Type 0) → (P → Q) → IfTooManyRules e P → IfTooManyRules e Q
many-weaker OutOfMemory P Q f h = tt
many-weaker TooManyRules P Q f h = f h

-- for a last call whose `Result` is returned as it is
pub large-weaker : {T : Type 0} (r : Result T FilterFault) (P Q : Type 0) → (P → Q) → IfErr r (λ fault. IfTooManyRules fault P) → IfErr r (λ fault. IfTooManyRules fault Q)
large-weaker (Ok x) P Q f h = tt
large-weaker (Err e) P Q f h = many-weaker e P Q f h
