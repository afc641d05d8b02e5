-- The faults of a repository that are tested once its last line was read, in the order in which they are tested.
use Rattle.std.specs.Prelude.{ℕ, ◌≡◌, List, [], ◌∷◌, ◌++◌, map, codes, Option, Some, None, slice_get, slice_index_or}
use Rattle.cls_base.specs.Firsts.{Cause}
use Rattle.cls_base.specs.Schemas.{OpenType}
use Rattle.cls_kind.specs.declared.fault.KindFault.TheVariants as kind_faults
use Rattle.cls_taxon.specs.Orders.{Declared, IsLeastOnCycle, IsFirstMixed}
use Rattle.cls_library.specs.declared.fault.LibraryFault.{LibraryFault}
use Rattle.cls_library.specs.declared.fault.LibraryKind.{LibraryKind}
use Rattle.cls_library.specs.declared.fault.LibraryKind.TheVariants.{TooManyComponents, LibraryTooLarge, Kind, ArityTooLarge, OutOfMemory}
use Rattle.cls_library.specs.Refusals.{RefusesAt}
use Rattle.cls_repo.specs.Drafts.{Component, Draft}

-- the text of the number in a table, none if it isn't there
abbrev pub name_at : List (List ℕ) → ℕ → List ℕ
name_at names number = slice_index_or names number []

-- the order of names that is declared
abbrev pub declared_in : Draft → Declared
declared_in d = record { pairs = d.pairs; variances = d.variances }

abbrev pub schemas_in : Draft → List OpenType
schemas_in d = map (λ c. c.schema) d.components

-- The words of a refusal of a library, by the names of variables and the name of the component. Out of memory has none.
abbrev pub library_words : List (List ℕ) → List ℕ → LibraryKind → Option (List ℕ)
library_words variables x TooManyComponents = Some (codes "components")
library_words variables x LibraryTooLarge = Some (codes "library")
library_words variables x (Kind (kind_faults.UnknownVariable v)) = Some (codes "variable " ++ name_at variables v.0)
library_words variables x (Kind kind_faults.TooManyInstances) = Some (codes "instances " ++ x)
library_words variables x (Kind kind_faults.InstanceTooLarge) = Some (codes "instance " ++ x)
library_words variables x (Kind kind_faults.OutOfMemory) = None
library_words variables x ArityTooLarge = Some (codes "arity " ++ x)
library_words variables x OutOfMemory = None

-- A fault, said with the number of the line at which it stands and in its words.
abbrev pub Fault : Type 1
Fault = Cause (ℕ × List ℕ)

-- A name is above and below another one. The fault stands at the line `end`, which has the number n.
abbrev pub cycle : Draft → ℕ → Fault
cycle d n said = (a : ℕ) × IsLeastOnCycle d.pairs a × (said ≡ (n, codes "cycle " ++ name_at d.names a))

-- A name is below one of another variance.
abbrev pub variance_mix : Draft → ℕ → Fault
variance_mix d n said =
    (a : ℕ) × IsFirstMixed (declared_in d) a × (said ≡ (n, codes "variance-mix " ++ name_at d.names a))

-- A component is refused. The fault stands at the line of the component.
abbrev pub refused_component : Draft → Fault
refused_component d said =
    (fault : LibraryFault) × (component : Component)
    × RefusesAt (declared_in d) d.kinds (schemas_in d) fault
    × (slice_get d.components fault.component ≡ Some component)
    × (said.0 ≡ component.line)
    × (library_words d.variables (name_at d.component_names fault.component) fault.kind ≡ Some said.1)

-- What is wrong with the repository, of which the line `end` has the number n.
abbrev pub end_faults : Draft → ℕ → List Fault
end_faults d n = cycle d n ∷ variance_mix d n ∷ refused_component d ∷ []
