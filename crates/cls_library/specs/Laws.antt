-- What holds of all libraries.
use Rattle.std.specs.Prelude.{ℕ, ◌≡◌, ◌↔◌, ◌<◌, List, [], ◌∷◌, ◌++◌, Contains, length, remove}
use Rattle.std.specs.List.{AllZip}
use Rattle.cls_base.specs.Types.{ClosedType, arrow, meet}
use Rattle.cls_base.specs.Schemas.{OpenType}
use Rattle.cls_base.specs.Subtyping.{Subtype}
use Rattle.cls_base.specs.Taxonomies.{Chain}
use Rattle.cls_base.specs.Terms.{Applicative, component, apply}
use Rattle.cls_base.specs.Typing.{HasType}
use Rattle.cls_base.specs.Spines.{spine}
use Rattle.cls_base.specs.declared.rule.Rule.{Rule}
use Rattle.cls_base.specs.declared.rule.Rule.TheVariants.{Head}
use Rattle.cls_path.specs.Paths.{TypePath, Paths, more, type_of_path, type_of_paths, Suits, SuitsAll}
use Rattle.cls_taxon.specs.Orders.{Declared, IsOrder}
use Rattle.cls_library.specs.declared.fault.LibraryFault.{LibraryFault}
use Rattle.cls_library.specs.declared.fault.LibraryKind.TheVariants.{OutOfMemory}
use Rattle.cls_library.specs.Libraries.{Library, IsLibrary, below_in, variances_in}
use Rattle.cls_library.specs.Reaching.{IsReachedBy}
use Rattle.cls_library.specs.Rules.{IsRules}
use Rattle.cls_library.specs.Refusals.{Adds, IsLibraryOf, RefusesAt}
use Rattle.cls_library.specs.Typing.{HasTypeIn, HasTypeByInstances, IsInstanceOf}

-- a schema that is added to the library of a list makes the library of the longer list
abbrev pub AddingMakesLibraries : Type 0
AddingMakesLibraries =
    (d : Declared) (kinds : List (ℕ × List ClosedType)) (schemas : List OpenType) (s : OpenType) (old new : Library)
    → IsLibraryOf d kinds schemas old → Adds d kinds s old new → IsLibraryOf d kinds (schemas ++ s ∷ []) new

-- a list of schemas without one of them makes the library without that component
abbrev pub RemovingMakesLibraries : Type 0
RemovingMakesLibraries =
    (d : Declared) (kinds : List (ℕ × List ClosedType)) (schemas : List OpenType) (l : Library) (x : ℕ)
    → IsLibraryOf d kinds schemas l → x < length schemas
    → IsLibraryOf d kinds (remove schemas x) (record { taxonomy = l.taxonomy; components = remove l.components x })

-- a list of schemas has one library
abbrev pub LibrariesAreUnique : Type 0
LibrariesAreUnique =
    (d : Declared) (kinds : List (ℕ × List ClosedType)) (schemas : List OpenType) (l m : Library)
    → IsLibraryOf d kinds schemas l → IsLibraryOf d kinds schemas m → l ≡ m

-- a list of schemas isn't both accepted and refused, unless memory ran out
abbrev pub RefusalsAreExact : Type 0
RefusalsAreExact =
    (d : Declared) (kinds : List (ℕ × List ClosedType)) (schemas : List OpenType) (l : Library) (f : LibraryFault)
    → IsLibraryOf d kinds schemas l → RefusesAt d kinds schemas f → f.kind ≡ OutOfMemory

-- a term has a type by the instances of the schemas if and only if it has it by the one type of each component
abbrev pub ReadingsAgree : Type 0
ReadingsAgree =
    (d : Declared) (kinds : List (ℕ × List ClosedType)) (schemas : List OpenType) (l : Library)
    → IsLibraryOf d kinds schemas l → (e : Applicative) (t : ClosedType)
    → HasTypeByInstances d kinds schemas e t ↔ HasTypeIn l e t

-- if an order was declared, subtyping by the chains of its pairs is subtyping by what a lookup answers
abbrev pub SubtypingIsByChains : Type 0
SubtypingIsByChains =
    (d : Declared) → IsOrder d → (s t : ClosedType)
    → Subtype (Chain d.pairs) (variances_in d) s t ↔ Subtype (below_in d) (variances_in d) s t

-- and a term has a type by the chains of its pairs and the instances of the schemas if and only if it has it by the library
abbrev pub TypingIsByChains : Type 0
TypingIsByChains =
    (d : Declared) → IsOrder d → (kinds : List (ℕ × List ClosedType)) (schemas : List OpenType) (l : Library)
    → IsLibraryOf d kinds schemas l → (e : Applicative) (t : ClosedType)
    → HasType (Chain d.pairs) (variances_in d) (IsInstanceOf kinds schemas) e t ↔ HasTypeIn l e t

-- an application has a type if and only if the function takes a type that the argument has to it
abbrev pub ApplicationsAreGenerated : Type 0
ApplicationsAreGenerated =
    (l : Library) (f a : Applicative) (t : ClosedType)
    → HasTypeIn l (apply f a) t ↔ ((s : ClosedType) × HasTypeIn l f (arrow s t) × HasTypeIn l a s)

-- a term has an intersection if and only if it has both parts
abbrev pub IntersectionsAreBoth : Type 0
IntersectionsAreBoth =
    (l : Library) (e : Applicative) (s t : ClosedType)
    → HasTypeIn l e (meet s t) ↔ (HasTypeIn l e s × HasTypeIn l e t)

-- The path lemma: a component, applied to terms, has a path if and only if one of its arrows with so many sources leads to
-- the path and each term has its source.
abbrev pub PathsAreReached : Type 0
PathsAreReached =
    (l : Library) → IsLibrary l → (x : ℕ) (es : List Applicative) (q : TypePath) → Suits (variances_in l.taxonomy) q
    → HasTypeIn l (spine (component x) es) (type_of_path q) ↔ IsReachedBy l x es q

-- A spine has a goal with a path if and only if some rule of the goal has its head and number of arguments, and its
-- arguments have the types of the rule's arguments.
abbrev pub RulesAreTheTyping : Type 0
RulesAreTheTyping =
    (lib : Library) → IsLibrary lib → (q : TypePath) (n : Paths) (rs : List (Rule Paths))
    → SuitsAll (variances_in lib.taxonomy) (more q n) → IsRules lib (more q n) rs → (x : ℕ) (es : List Applicative)
    → HasTypeIn lib (spine (component x) es) (type_of_paths (more q n))
    ↔ ((ns : List Paths) × Contains rs (Head x ns) × AllZip (λ e m. HasTypeIn lib e (type_of_paths m)) es ns)
