-- Membership by recursion on the list, and lists that are joined.
use Rattle.std.specs.Prelude.{ℕ, ◌≡◌, ◌≤◌, ◌<◌, ◌↔◌, ◌⊎◌, List, [], ◌∷◌, ◌++◌, length, map}
use Rattle.cls_base.specs.Limits.{max_term_length}
use Rattle.cls_base.specs.Lists.{AreDistinct, AreBelow}
use Rattle.cls_base.specs.Terms.{Applicative, length_of, code_of, Precedes}
use Rattle.cls_term.specs.Banks.{at, term_by}

abbrev pub IsIn : {A : Type 0} → List A → A → Type 0
IsIn [] e = ⊥
IsIn (x ∷ xs) e = (x ≡ e) ⊎ IsIn xs e

-- what is in the new list is in one of the two
abbrev pub Joins : {A : Type 0} → List A → List A → List A → Type 0
Joins {A} old more new = (e : A) → IsIn new e ↔ (IsIn old e ⊎ IsIn more e)

-- more than so many different terms are in one of the two
abbrev pub IsOverfull : ℕ → List Applicative → List Applicative → Type 0
IsOverfull limit old more = (xs : List Applicative) × AreDistinct xs × ((e : Applicative) → IsIn xs e → IsIn old e ⊎ IsIn more e) × (limit < length xs)

abbrev pub SpinesBelow : ℕ → List (ℕ × List ℕ) → Type 0
SpinesBelow n [] = Unit {0}
SpinesBelow n (s ∷ spines) = AreBelow n s.1 × SpinesBelow n spines

-- The spines are made of the terms, which differ, and so do theirs, none of which is too long.
pub record AreFound (terms : List Applicative) (spines : List (ℕ × List ℕ)) : Type 0 where
  pub below : SpinesBelow (length terms) spines
  pub different : AreDistinct (map (term_by terms) spines)
  pub short : (e : Applicative) → IsIn (map (term_by terms) spines) e → length_of e ≤ max_term_length

-- the terms of the spines are joined with more, each once
pub record IsAdded (terms : List Applicative) (old : List (ℕ × List ℕ)) (more : List Applicative) (new : List (ℕ × List ℕ)) : Type 0 where
  pub found : AreFound terms new
  pub joined : Joins (map (term_by terms) old) more (map (term_by terms) new)

-- the terms stay, and further ones come behind them
abbrev pub IsGrown : List Applicative → List Applicative → Type 0
IsGrown old new = (more : List Applicative) × (new ≡ old ++ more)

-- each code comes before the next
abbrev pub CodesRise : List Applicative → Type 0
CodesRise [] = Unit {0}
CodesRise (e ∷ []) = Unit {0}
CodesRise (e ∷ f ∷ es) = Precedes (code_of e) (code_of f) × CodesRise (f ∷ es)

-- the numbers are of exactly the candidates, each once, in the order of their codes
pub record IsCell (terms : List Applicative) (candidates : List Applicative) (numbers : List ℕ) : Type 0 where
  pub below : AreBelow (length terms) numbers
  pub rises : CodesRise (map (at terms) numbers)
  pub exact : (e : Applicative) → IsIn (map (at terms) numbers) e ↔ IsIn candidates e
