-- Why a query isn't answered: the causes in the order in which they are tested.
use Rattle.std.specs.Prelude.{◌≡◌, ◌⊎◌, List, [], ◌∷◌, ◌++◌, Contains}
use Rattle.cls_base.specs.Types.{ClosedType}
use Rattle.cls_base.specs.Pages.{Request}
use Rattle.cls_base.specs.Firsts.{Cause, First, IsSilent}
use Rattle.cls_filter.specs.Automata.{Automaton}
use Rattle.cls_library.specs.Libraries.{Library}
use Rattle.cls_engine.specs.declared.options.Options.{Options}
use Rattle.cls_engine.specs.declared.fault.EngineFault.{EngineFault}
use Rattle.cls_engine.specs.declared.fault.EngineFault.TheVariants.{Size, TooLarge, Wide, FilterTooLarge, TooManyTerms, OutOfMemory}
use Rattle.cls_engine.specs.Goals.{Goal, IsSpread, IsUnfit, HasLargeClosure, IsFirstWide, HasLargePool, HasLargeFilterOf, HasLargeFilteredPool}

-- what is compared: one of the types has a spread over the limit
abbrev pub compare_faults : List ClosedType → List (Cause EngineFault)
compare_faults ts = (λ f. ((t : ClosedType) × Contains ts t × IsSpread t) × (f ≡ Size)) ∷ []

-- the closure of a type is made
abbrev pub closure_faults : Library → Options → ClosedType → List (Cause EngineFault)
closure_faults lib o t =
    (λ f. (IsSpread t ⊎ IsUnfit lib t) × (f ≡ Size))
    ∷ (λ f. HasLargeClosure lib o.goals o.rules t × (f ≡ TooLarge))
    ∷ (λ f. (g : Goal) × IsFirstWide lib t g × (f ≡ Wide g))
    ∷ []

-- a page of the closure is made
abbrev pub list_faults : Library → Options → ClosedType → Request → List (Cause EngineFault)
list_faults lib o t q = closure_faults lib o t ++ (λ f. HasLargePool lib o.pool t q × (f ≡ TooManyTerms)) ∷ []

-- a page of the terms of the closure that the automaton accepts is made
abbrev pub filter_faults : Library → Options → ClosedType → Automaton → Request → List (Cause EngineFault)
filter_faults lib o t a q =
    closure_faults lib o t
    ++ (λ f. HasLargeFilterOf lib o.rules t a × (f ≡ FilterTooLarge))
    ∷ (λ f. HasLargeFilteredPool lib o.pool t a q × (f ≡ TooManyTerms))
    ∷ []

-- the fault is the first cause that applies, or out of memory, which any call may be
abbrev pub IsFaultOf : List (Cause EngineFault) → EngineFault → Type 0
IsFaultOf causes OutOfMemory = Unit {0}
IsFaultOf causes f = First causes f

-- the type or its goal is too large, or the fault is out of memory
abbrev pub IsOversizedOr : Library → ClosedType → EngineFault → Type 0
IsOversizedOr lib t OutOfMemory = Unit {0}
IsOversizedOr lib t f = (IsSpread t ⊎ IsUnfit lib t) × (f ≡ Size)

-- no cause applies
abbrev pub AreSilent : List (Cause EngineFault) → Type 0
AreSilent causes = IsSilent (First causes)
