-- The first thing that applies: of causes in a fixed order, and along a list.
use Rattle.std.specs.Prelude.{◌≡◌, ◌⊎◌, List, [], ◌∷◌, ◌++◌}

-- What is said of a situation. A cause that doesn't apply says nothing.
abbrev pub Cause : Type 0 → Type 1
Cause T = T → Type 0

abbrev pub IsSilent : {T : Type 0} → Cause T → Type 0
IsSilent {T} says = (t : T) → says t → ⊥

-- the first of the causes that applies says this
abbrev pub First : {T : Type 0} → List (Cause T) → Cause T
First [] t = ⊥
First (says ∷ causes) t = says t ⊎ (IsSilent says × First causes t)

-- what is said of an element may depend on those before it
abbrev pub FirstAfter : {A T : Type 0} → (List A → A → Cause T) → List A → List A → Cause T
FirstAfter says before [] t = ⊥
FirstAfter says before (x ∷ xs) t =
    says before x t ⊎ (IsSilent (says before x) × FirstAfter says (before ++ x ∷ []) xs t)

-- this is said of the first element of the list of which anything is said
abbrev pub FirstAlong : {A T : Type 0} → (List A → A → Cause T) → List A → Cause T
FirstAlong says xs t = FirstAfter says [] xs t

-- no two things are said
abbrev pub IsDetermined : {T : Type 0} → Cause T → Type 0
IsDetermined {T} says = (t u : T) → says t → says u → t ≡ u

-- something is said, or nothing
abbrev pub IsDecided : {T : Type 0} → Cause T → Type 0
IsDecided {T} says = ((t : T) × says t) ⊎ IsSilent says

-- each of the causes has the property
abbrev pub EachCause : {T : Type 0} → (Cause T → Type 0) → List (Cause T) → Type 0
EachCause P [] = Unit {0}
EachCause P (says ∷ causes) = P says × EachCause P causes
