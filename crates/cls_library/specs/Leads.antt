-- internal: a goal whose rules are looked for, path by path
use Rattle.std.specs.Prelude.{ℕ, ◌≡◌, ◌+◌, ◌<◌, ◌≤◌, List, [], ◌∷◌, ◌++◌, length, map, take, drop, Contains, Option, None, Some, IsTrue, slice_get, IsSomeAnd}
use Rattle.std.specs.Borrow.{Bor}
use Rattle.cls_path.specs.Paths.{TypePath, Paths, more, PathLe}
use Rattle.cls_library.specs.declared.lead.Lead.{Lead}
use Rattle.cls_library.specs.declared.index.Entry.{Entry}
use Rattle.cls_library.specs.declared.place.Place.{Place}
use Rattle.cls_library.specs.declared.sought.Sought.{Sought}
use Rattle.cls_library.specs.Arrows.{arity_of}
use Rattle.cls_library.specs.Endings.{IsSought, ending_of}
use Rattle.cls_library.specs.Families.{AreFamiliesAt, IsBefore, IsFamilyIn, IsNext, alone}
use Rattle.cls_library.specs.Index.{AreEntries, EndsIn, Spot}
use Rattle.cls_library.specs.Libraries.{Library, arrows_at, below_in, paths_at, variances_in}

-- the entries that are kept, if any, are those of the ending that is sought, and its head is alone
abbrev pub AreSoughtEntries : Library → Sought → Option (Bor (List Entry)) → Type 0
AreSoughtEntries l s None = Unit {0}
AreSoughtEntries l s (Some entries) = IsTrue s.alone × AreEntries l.components s.ending entries.now

-- what is sought for the path in the library
pub record IsLead (l : Library) (lead : Lead) : Type 0 where
  pub sought : IsSought l.taxonomy lead.path.now lead.sought
  pub entries : AreSoughtEntries l lead.sought lead.entries

-- the entries that are kept are none
abbrev pub AreNone : Option (Bor (List Entry)) → Type 0
AreNone None = ⊥
AreNone (Some entries) = entries.now ≡ []

-- it has the arrows that may lead to the path, and there is none
abbrev pub IsIdle : Lead → Type 0
IsIdle lead = AreNone lead.entries

abbrev pub path_of : Lead → TypePath
path_of lead = lead.path.now

-- the entries before the number i are before the place
abbrev pub AreBefore : List Entry → Place → ℕ → Type 0
AreBefore entries p i = (k : ℕ) (t : Entry) → k < i → slice_get entries k ≡ Some t → IsBefore t.place p

-- the number of the first entry that isn't before the place, or that of all if there is none
pub record IsFirstFrom (entries : List Entry) (p : Place) (i : ℕ) : Type 0 where
  pub within : i ≤ length entries
  pub before : AreBefore entries p i
  pub from : (t : Entry) → slice_get entries i ≡ Some t → IsBefore t.place p → ⊥

-- the entry of the place, or None if there is no such one
abbrev pub IsEntryAt : List Entry → Place → Option (Bor Entry) → Type 0
IsEntryAt entries p None = (t : Entry) → Contains entries t → t.place ≡ p → ⊥
IsEntryAt entries p (Some t) = Contains entries t.now × (t.now.place ≡ p)

-- the arrow leads to the path
abbrev pub Leads : Library → TypePath → Spot → Type 0
Leads l q s = IsSomeAnd (slice_get (arrows_at l s.place.component s.place.count) s.position) (λ a. PathLe (below_in l.taxonomy) (variances_in l.taxonomy) a.target q)

-- each arrow of the place that leads to the path has the same ending as the path
abbrev pub EndAlike : Library → TypePath → Place → Type 0
EndAlike l q p = (i : ℕ) → Leads l q (record { place = p; position = i }) → EndsIn l.components (ending_of q) (record { place = p; position = i })

-- no arrow of the place leads to a path for which this is sought
abbrev pub NoneLeads : Library → Sought → Place → Type 0
NoneLeads l s p = (q : TypePath) → IsSought l.taxonomy q s → IsFamilyIn l.taxonomy (arrows_at l p.component p.count) q []

-- the next place where an arrow may lead to a path for which this is sought
abbrev pub IsNextFor : Library → Sought → Place → Option Place → Type 0
IsNextFor l s from next = (q : TypePath) (rest : Paths) → IsSought l.taxonomy q s → IsNext l (more q rest) from next

abbrev pub place_at : ℕ → ℕ → Place
place_at x n = record { component = x; count = n }

-- a place of the same component from the first one on, so that at none between them an arrow leads
pub record IsNextCount (l : Library) (s : Sought) (from p : Place) : Type 0 where
  pub component : p.component ≡ from.component
  pub later : from.count ≤ p.count
  pub within : p.count ≤ arity_of (paths_at l from.component)
  pub passed : (k : ℕ) → from.count ≤ k → k < p.count → NoneLeads l s (place_at from.component k)

abbrev pub IsNextWithin : Library → Sought → Place → Option Place → Type 0
IsNextWithin l s from None = (k : ℕ) → from.count ≤ k → k ≤ arity_of (paths_at l from.component) → NoneLeads l s (place_at from.component k)
IsNextWithin l s from (Some p) = IsNextCount l s from p

-- the family of the path at the place, put behind other positions
abbrev pub PutsFamily : Library → TypePath → Place → List ℕ → List ℕ → Type 0
PutsFamily l q p old new = (family : List ℕ) × (new ≡ old ++ family) × IsFamilyIn l.taxonomy (arrows_at l p.component p.count) q family

-- the families of the first paths: so many of one position each, and then one that has the other positions
pub record AreBegun (l : Library) (goal : List TypePath) (p : Place) (count : ℕ) (positions : List ℕ) : Type 0 where
  pub within : count ≤ length positions
  pub families : AreFamiliesAt l (take (count + 1) goal) p (map alone (take count positions) ++ drop count positions ∷ [])
