-- The words of the code's faults, and when a fault is the first of several causes.
use Rattle.std.specs.Prelude.{ℕ, ◌≡◌, ◌++◌, Bool, true, false, List, [], Some, codes, string_bytes}
use Rattle.std.specs.Fmt.{decimal}
use Rattle.cls_base.specs.Firsts.{Cause, First}
use Rattle.cls_repo.specs.declared.fault.FaultKind.{FaultKind}
use Rattle.cls_repo.specs.declared.fault.FaultKind.TheVariants.{LineTooLong, NotUtf8, UnknownDirective, TooDeep, Unexpected, ReservedName, TooManyNodes, DuplicateComponent, DuplicateKind, EmptyKind, KindHasVariable, UnknownComponent, BadHole, HoleZero, HoleOver16, CostOutOfRange, DuplicateVariance, UnknownFilter, DuplicateFilter, TooManyStates, NoEnd, Cycle, VarianceMix, TooManyComponents, LibraryTooLarge, UnknownVariable, TooManyInstances, InstanceTooLarge, ArityTooLarge, OutOfMemory}
use Rattle.cls_repo.specs.declared.fault.RepoFault.{RepoFault}
use Rattle.cls_assemble.specs.declared.fault.TemplateFault.{TemplateFault}
use Rattle.cls_repo.specs.LineFaults.{template_words}

-- Out of memory has no words.
abbrev pub fault_words : FaultKind → List ℕ
fault_words LineTooLong = codes "long"
fault_words NotUtf8 = codes "utf8"
fault_words UnknownDirective = codes "directive"
fault_words TooDeep = codes "deep"
fault_words (Unexpected byte) = codes "syntax " ++ decimal byte
fault_words (ReservedName byte) = codes "reserved " ++ decimal byte
fault_words TooManyNodes = codes "nodes"
fault_words (DuplicateComponent name) = codes "duplicate-component " ++ string_bytes name
fault_words (DuplicateKind name) = codes "duplicate-kind " ++ string_bytes name
fault_words (EmptyKind name) = codes "empty-kind " ++ string_bytes name
fault_words (KindHasVariable byte) = codes "kind-variable " ++ decimal byte
fault_words (UnknownComponent name) = codes "unknown-component " ++ string_bytes name
fault_words (BadHole byte) = codes "hole " ++ decimal byte
fault_words (HoleZero byte) = codes "hole-zero " ++ decimal byte
fault_words (HoleOver16 byte) = codes "hole-over " ++ decimal byte
fault_words (CostOutOfRange name) = codes "cost " ++ string_bytes name
fault_words (DuplicateVariance name) = codes "duplicate-variance " ++ string_bytes name
fault_words (UnknownFilter name) = codes "unknown-filter " ++ string_bytes name
fault_words (DuplicateFilter name) = codes "duplicate-filter " ++ string_bytes name
fault_words (TooManyStates name) = codes "states " ++ string_bytes name
fault_words NoEnd = codes "no-end"
fault_words (Cycle name) = codes "cycle " ++ string_bytes name
fault_words (VarianceMix name) = codes "variance-mix " ++ string_bytes name
fault_words TooManyComponents = codes "components"
fault_words LibraryTooLarge = codes "library"
fault_words (UnknownVariable name) = codes "variable " ++ string_bytes name
fault_words (TooManyInstances name) = codes "instances " ++ string_bytes name
fault_words (InstanceTooLarge name) = codes "instance " ++ string_bytes name
fault_words (ArityTooLarge name) = codes "arity " ++ string_bytes name
fault_words OutOfMemory = []

abbrev pub is_out_of_memory : FaultKind → Bool
is_out_of_memory OutOfMemory = true
is_out_of_memory _ = false

-- The property holds of the fault's words. Out of memory has none, and says nothing.
abbrev pub OnWords : (List ℕ → Type 0) → FaultKind → Type 0
OnWords P OutOfMemory = Unit {0}
OnWords P kind = P (fault_words kind)

-- The first of the causes that applies says the fault's words.
abbrev pub IsFirst : List (Cause (List ℕ)) → FaultKind → Type 0
IsFirst causes kind = OnWords (First causes) kind

-- The fault's line and words are said.
abbrev pub IsSaid : Cause (ℕ × List ℕ) → RepoFault → Type 0
IsSaid says fault = OnWords (λ words. says (fault.line, words)) fault.kind

-- The words of a fault of a template that stands behind so many bytes of its line.
abbrev pub IsTemplateFault : ℕ → TemplateFault → FaultKind → Type 0
IsTemplateFault start fault kind = OnWords (λ words. template_words start fault ≡ Some words) kind
