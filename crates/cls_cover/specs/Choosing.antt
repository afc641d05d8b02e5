-- How the minimal covers grow by one family more, where positions are below 128
use Rattle.std.specs.Prelude.{ℕ, ◌≡◌, ◌<◌, ◌≤◌, ◌+◌, ◌↔◌, ◌⊎◌, List, length, take, map}
use Rattle.cls_cover.specs.declared.small.Begun.{Begun}
use Rattle.cls_cover.specs.Members.{Member, Differ}
use Rattle.cls_cover.specs.Lists.{Sublist}
use Rattle.cls_cover.specs.MemberCovers.{IsMinimalSet, Shares, SharesEach}
use Rattle.cls_cover.specs.Rows.{family_at}
use Rattle.cls_cover.specs.Sets.{IsIn, members, AreSetsOf}
use Rattle.cls_cover.specs.Growing.{IsPut, Gives}

-- a minimal cover of the first j families
abbrev pub IsCoverOf : List (List ℕ) → ℕ → List ℕ → Type 0
IsCoverOf families j s = IsMinimalSet (SharesEach (take j families)) s

-- none of the lists is a proper sublist of another one
abbrev pub AreApart : List (List ℕ) → Type 0
AreApart list = (s t : List ℕ) → Member list s → Member list t → Sublist s t → s ≡ t

-- different minimal covers of the first j families
pub record AreCoversOf (families : List (List ℕ)) (j : ℕ) (list : List (List ℕ)) : Type 0 where
  pub minimal : (t : List ℕ) → Member list t → IsCoverOf families j t
  pub differ : Differ list

-- and these are all
pub record AreAllCoversOf (families : List (List ℕ)) (j : ℕ) (list : List (List ℕ)) : Type 0 where
  pub covers : AreCoversOf families j list
  pub whole : (t : List ℕ) → IsCoverOf families j t → Member list t

-- what one cover gives is added to the list
pub record IsGivenTo (families : List (List ℕ)) (j : ℕ) (s : List ℕ) (old new : List (List ℕ)) : Type 0 where
  pub covers : AreCoversOf families (j + 1) new
  pub origin : (t : List ℕ) → Member new t → Member old t ⊎ Gives families j s t
  pub kept : (t : List ℕ) → Member old t → Member new t
  pub longer : length old ≤ length new
  pub whole : (t : List ℕ) → Gives families j s t → Member new t

-- what one cover that misses the next family gives with the numbers that are done is added to the list
pub record IsGivenWith
    (families : List (List ℕ)) (j : ℕ) (s : List ℕ) (old : List (List ℕ)) (done : List ℕ) (new : List (List ℕ))
    : Type 0 where
  pub covers : AreCoversOf families (j + 1) new
  pub origin : (t : List ℕ) → Member new t → Member old t ⊎ ((x : ℕ) × Member done x × IsPut x s t)
  pub kept : (t : List ℕ) → Member old t → Member new t
  pub longer : length old ≤ length new
  pub whole : (x : ℕ) → Member done x → (t : List ℕ) → IsPut x s t → IsCoverOf families (j + 1) t → Member new t

-- what is in a list before what a cover gives is added to it
pub record IsFreeOf (families : List (List ℕ)) (j : ℕ) (s : List ℕ) (old : List (List ℕ)) : Type 0 where
  pub covers : AreCoversOf families (j + 1) old
  pub fresh : (t : List ℕ) → Member old t → Gives families j s t → ⊥

-- the list has what the covers give, all of it unless it is longer than the limit
pub record IsGivenBy (families : List (List ℕ)) (j limit : ℕ) (old new : List (List ℕ)) : Type 0 where
  pub covers : AreCoversOf families (j + 1) new
  pub origin : (t : List ℕ) → Member new t → (s : List ℕ) × Member old s × Gives families j s t
  pub whole : length new ≤ limit → (s t : List ℕ) → Member old s → Gives families j s t → Member new t

-- the position stands in one of the first j families
abbrev pub StandsIn : List (List ℕ) → ℕ → ℕ → Type 0
StandsIn families j x = (f : ℕ) × (f < j) × Member (family_at families f) x

-- a family comes next, and the positions of those before it are seen
pub record IsBegun (begun : Begun) : Type 0 where
  pub sets : AreSetsOf begun.families.now begun.sets.now
  pub more : begun.count < length begun.families.now
  pub seen : (x : ℕ) → IsIn begun.seen x ↔ StandsIn begun.families.now begun.count x

-- the family that comes next
abbrev pub next_of : Begun → List ℕ
next_of begun = family_at begun.families.now begun.count

-- a minimal cover of the families before the next one
abbrev pub IsCoverBefore : Begun → ℕ → Type 0
IsCoverBefore begun cover = IsCoverOf begun.families.now begun.count (members cover)

-- a minimal cover of these and the next one
abbrev pub IsCoverAfter : Begun → List ℕ → Type 0
IsCoverAfter begun s = IsCoverOf begun.families.now (begun.count + 1) s

abbrev pub Misses : Begun → ℕ → Type 0
Misses begun cover = Shares (next_of begun) (members cover) → ⊥

abbrev pub IsFree : Begun → ℕ → List ℕ → Type 0
IsFree begun cover old = IsFreeOf begun.families.now begun.count (members cover) (map members old)

-- what the cover gives with the next family is added
abbrev pub IsGiven : Begun → ℕ → List ℕ → List ℕ → Type 0
IsGiven begun cover old new =
    IsGivenTo begun.families.now begun.count (members cover) (map members old) (map members new)

-- the list has what the covers give, all of it unless it is longer than the limit
abbrev pub AreGiven : Begun → ℕ → List ℕ → List ℕ → Type 0
AreGiven begun limit old new = IsGivenBy begun.families.now begun.count limit (map members old) (map members new)
