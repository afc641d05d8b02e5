-- internal: the arrows of a library by what their targets end in
use Rattle.std.specs.Prelude.{ℕ, ◌≡◌, ◌<◌, ◌≤◌, ◌⊎◌, Bool, true, false, List, [], ◌∷◌, ◌++◌, Contains, slice_get, slice_index_or, IsSomeAnd, Option, None, Some}
use Rattle.std.specs.declared.vec.Vec.{Vec}
use Rattle.indexmap.specs.IndexMap.{get}
use Rattle.cls_base.specs.Limits.{max_arity}
use Rattle.cls_path.specs.Paths.{Paths}
use Rattle.cls_library.specs.declared.ending.Ending.{Ending}
use Rattle.cls_library.specs.declared.index.Entry.{Entry}
use Rattle.cls_library.specs.declared.index.Index.{Index}
use Rattle.cls_library.specs.declared.place.Place.{Place}
use Rattle.cls_library.specs.contracts.ending.EndingPartialEq.TheImpl.{eq-value}
use Rattle.cls_library.specs.Arrows.{MultiArrow, arity_of, arrows_of}
use Rattle.cls_library.specs.Endings.{ending_of}
use Rattle.cls_library.specs.Families.{IsBefore}
use Rattle.cls_library.specs.Libraries.{Component, no_component}

-- the paths of a component
abbrev pub paths_in : List Component → ℕ → Paths
paths_in cs x = (slice_index_or cs x no_component).paths

-- the arrows of a place
abbrev pub arrows_in : List Component → Place → List MultiArrow
arrows_in cs p = arrows_of p.count (paths_in cs p.component)

-- no component takes too many arguments
abbrev pub AreNarrow : List Component → Type 0
AreNarrow cs = (x : ℕ) → arity_of (paths_in cs x) ≤ max_arity

-- where an arrow stands: its place, and its position among the arrows there
pub record Spot : Type 0 where
  pub place : Place
  pub position : ℕ

-- the arrow with this position among those of component x that take n arguments
abbrev pub spot_at : ℕ → ℕ → ℕ → Spot
spot_at x n i = record { place = record { component = x; count = n }; position = i }

-- the arrow is one of the components, and its target has the ending
abbrev pub EndsIn : List Component → Ending → Spot → Type 0
EndsIn cs e s = IsSomeAnd (slice_get (arrows_in cs s.place) s.position) (λ a. ending_of a.target ≡ e)

-- the first arrow comes before the second: by the place, then by the position
abbrev pub ArrowIsBefore : Spot → Spot → Type 0
ArrowIsBefore s t = IsBefore s.place t.place ⊎ ((s.place ≡ t.place) × (s.position < t.position))

-- each place comes before all later ones
abbrev pub AreInOrder : List Entry → Type 0
AreInOrder entries = (i j : ℕ) (s t : Entry) → i < j → slice_get entries i ≡ Some s → slice_get entries j ≡ Some t → IsBefore s.place t.place

module _ (Counts : Spot → Type 0) where
  -- an arrow of the place counts, and no other one than that of the entry if it has one
  pub record IsEntry (t : Entry) : Type 0 where
    pub some : (i : ℕ) × Counts (record { place = t.place; position = i })
    pub only : (i j : ℕ) → t.only ≡ Some i → Counts (record { place = t.place; position = j }) → j ≡ i

  -- the places of the arrows that count, in order
  pub record HoldEntries (entries : List Entry) : Type 0 where
    pub in_order : AreInOrder entries
    pub each : (t : Entry) → Contains entries t → IsEntry t
    pub whole : (s : Spot) → Counts s → (t : Entry) × Contains entries t × (t.place ≡ s.place)

-- the places of the arrows whose targets have the ending, in order
abbrev pub AreEntries : List Component → Ending → List Entry → Type 0
AreEntries cs e entries = HoldEntries (EndsIn cs e) entries

-- the same of the arrows before this one
abbrev pub AreEntriesBefore : List Component → Spot → Ending → List Entry → Type 0
AreEntriesBefore cs bound e entries = HoldEntries (λ s. EndsIn cs e s × ArrowIsBefore s bound) entries

-- an entry of the place for one arrow alone, or for several
abbrev pub one_at : Place → ℕ → Entry
one_at p i = record { place = p; only = Some i }

abbrev pub several_at : Place → Entry
several_at p = record { place = p; only = None }

-- the last entry isn't of the place
abbrev pub IsNew : Place → List Entry → Type 0
IsNew p entries = (front : List Entry) (t : Entry) → entries ≡ front ++ t ∷ [] → t.place ≡ p → ⊥

-- the last entry is of the place, and is then one for several arrows
pub record Merges (p : Place) (old new : List Entry) : Type 0 where
  pub front : List Entry
  pub last : Entry
  pub was : old ≡ front ++ last ∷ []
  pub here : last.place ≡ p
  pub is : new ≡ front ++ several_at p ∷ []

-- the entries with an arrow more, which is behind all others
abbrev pub PutsArrow : Place → ℕ → List Entry → List Entry → Type 0
PutsArrow p i old new = (IsNew p old × (new ≡ old ++ one_at p i ∷ [])) ⊎ Merges p old new

-- the same, if the arrow is one of these
abbrev pub PutsIf : Bool → Place → ℕ → List Entry → List Entry → Type 0
PutsIf true p i old new = PutsArrow p i old new
PutsIf false p i old new = new ≡ old

-- whether the endings are the same
abbrev pub is_ending : Ending → Ending → Bool
is_ending = eq-value.it

-- the entries that are kept
abbrev pub entries_in : {A : Type 0} → Option (Vec Entry A) → List Entry
entries_in None = []
entries_in (Some v) = v.items

-- the entries that the index has for the ending
abbrev pub entries_for : Index → Ending → List Entry
entries_for index e = entries_in (get is_ending index.lists e)

-- the same of those of its arrows that come before this one
abbrev pub HasEntriesBefore : List Component → Spot → Index → Type 0
HasEntriesBefore cs bound index = (e : Ending) → AreEntriesBefore cs bound e (entries_for index e)

-- for each ending the places of its arrows
abbrev pub IsIndex : List Component → Index → Type 0
IsIndex cs index = (e : Ending) → AreEntries cs e (entries_for index e)

-- the index is that of the components, if there is one
abbrev pub IsIndexOf : List Component → Option Index → Type 0
IsIndexOf cs None = Unit {0}
IsIndexOf cs (Some index) = IsIndex cs index
