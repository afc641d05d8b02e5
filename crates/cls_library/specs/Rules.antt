-- The rules of a goal, and when it is wide.
--
-- A choice is a component, a number of arguments, and a minimal cover: positions of its arrows with so many sources that
-- together lead to the goal. It makes one rule, whose arguments are the normal forms of the sources over the cover. A
-- goal is wide if some component makes it so, by too many covers or by an argument that is too large.
use Rattle.std.specs.Prelude.{ℕ, zero, suc, ◌≡◌, ◌≤◌, ◌<◌, ◌↔◌, List, [], ◌∷◌, ◌++◌, length, Contains, slice_get, Some}
use Rattle.std.specs.List.{AllZip}
use Rattle.cls_base.specs.Terms.{Precedes}
use Rattle.cls_base.specs.declared.rule.Rule.{Rule}
use Rattle.cls_base.specs.declared.rule.Rule.TheVariants.{Head, Any}
use Rattle.cls_base.specs.Limits.{max_covers}
use Rattle.cls_path.specs.Paths.{TypePath, Paths, none, more, type_of_paths}
use Rattle.cls_norm.specs.Fit.{IsFit}
use Rattle.cls_cover.specs.Lists.{Rises}
use Rattle.cls_cover.specs.Covers.{IsMinimal, HasMore}
use Rattle.cls_library.specs.Arrows.{MultiArrow, arity_of}
use Rattle.cls_library.specs.Libraries.{Library, paths_at, arrows_at}
use Rattle.cls_library.specs.Reaching.{CoversGoal, IsReduced, columns}

-- One way to reach a goal: a component, a number of arguments, and positions of arrows that take so many.
pub record Choice : Type 0 where
  pub component : ℕ
  pub places : ℕ
  pub cover : List ℕ

-- component after component, then by the number of arguments, then by the cover
abbrev pub code_of_choice : Choice → List ℕ
code_of_choice c = c.component ∷ c.places ∷ c.cover

abbrev pub ComesBefore : Choice → Choice → Type 0
ComesBefore c d = Precedes (code_of_choice c) (code_of_choice d)

-- the numbers from x on, so many of them
abbrev pub numbers_from : ℕ → ℕ → List ℕ
numbers_from x zero = []
numbers_from x (suc k) = x ∷ numbers_from (suc x) k

-- each component without arguments
abbrev pub heads : List ℕ → List (Rule Paths)
heads [] = []
heads (x ∷ xs) = Head x [] ∷ heads xs

-- the rules of omega: each component alone, and then any term applied to any
abbrev pub omega_rules : ℕ → List (Rule Paths)
omega_rules count = heads (numbers_from 0 count) ++ (Any none none ∷ [])

-- ys is what stands for the first time in xs, and isn't in seen
pub data FirstOnes {A : Type 0} : List A → List A → List A → Type 0 where
  no_more : {seen : List A} → FirstOnes seen [] []
  fresh :
      {seen xs ys : List A} {x : A} → (Contains seen x → ⊥) → FirstOnes (x ∷ seen) xs ys
      → FirstOnes seen (x ∷ xs) (x ∷ ys)
  again : {seen xs ys : List A} {x : A} → Contains seen x → FirstOnes seen xs ys → FirstOnes seen (x ∷ xs) ys

-- the first list is a front of the second
pub data Front : Paths → Paths → Type 0 where
  no_front : {n : Paths} → Front none n
  more_front : {p : TypePath} {n m : Paths} → Front n m → Front (more p n) (more p m)

module _ (l : Library) where
  abbrev pub arrows_for : Choice → List MultiArrow
  arrows_for c = arrows_at l c.component c.places

  -- a choice that covers the goal, and no part of its cover does
  pub record IsChoice (goal : Paths) (c : Choice) : Type 0 where
    pub declared : c.component < length l.components
    pub within : c.places ≤ arity_of (paths_at l c.component)
    pub minimal : IsMinimal (CoversGoal l (arrows_for c) goal) c.cover

  -- the choices with the property, in order
  pub record AreChoices (Chosen : Choice → Type 0) (cs : List Choice) : Type 0 where
    pub in_order : Rises ComesBefore cs
    pub exactly : (c : Choice) → Contains cs c ↔ Chosen c

  -- each argument is the normal form of the intersection of the sources at its place, over the cover
  pub record IsRuleFor (c : Choice) (r : Rule Paths) : Type 0 where
    pub picked : List MultiArrow
    pub picks : AllZip (λ i a. slice_get (arrows_for c) i ≡ Some a) c.cover picked
    pub arguments : List Paths
    pub reduced : AllZip (IsReduced l) (columns c.places picked) arguments
    pub rule : r ≡ Head c.component arguments

  -- what such choices make, where a rule equal to an earlier one is dropped
  pub record AreMade (Chosen : Choice → Type 0) (rs : List (Rule Paths)) : Type 0 where
    pub choices : List Choice
    pub candidates : List (Rule Paths)
    pub chosen : AreChoices Chosen choices
    pub made : AllZip IsRuleFor choices candidates
    pub first_ones : FirstOnes [] candidates rs

  -- the rules of the goal
  abbrev pub IsRules : Paths → List (Rule Paths) → Type 0
  IsRules none rs = rs ≡ omega_rules (length l.components)
  IsRules (more q n) rs = AreMade (IsChoice (more q n)) rs

  -- the choices of one component
  abbrev pub IsChoiceBy : ℕ → Paths → Choice → Type 0
  IsChoiceBy x goal c = IsChoice goal c × (c.component ≡ x)

  -- the rules that one component makes for the goal
  abbrev pub IsRulesBy : ℕ → Paths → List (Rule Paths) → Type 0
  IsRulesBy x none rs = rs ≡ Head x [] ∷ []
  IsRulesBy x (more q n) rs = AreMade (IsChoiceBy x (more q n)) rs

  -- r is one of the goal's rules
  abbrev pub HasRule : Paths → Rule Paths → Type 0
  HasRule goal r = (rs : List (Rule Paths)) × IsRules goal rs × Contains rs r

  -- some front of the goal has too many minimal covers by the arrows of the component that take n arguments
  pub record HasManyCovers (goal : Paths) (x n : ℕ) : Type 0 where
    pub within : n ≤ arity_of (paths_at l x)
    pub front : Paths
    pub is_front : Front front goal
    pub over : HasMore (CoversGoal l (arrows_at l x n) front) max_covers

  -- an argument of the rule of a choice is too large
  pub record IsTooLarge (goal : Paths) (c : Choice) : Type 0 where
    pub choice : IsChoice goal c
    pub made : Rule Paths
    pub rule : IsRuleFor c made
    pub argument : Paths
    pub place : Contains rule.arguments argument
    pub unfit : IsFit (type_of_paths argument) → ⊥

  -- The component makes the goal wide: some front has too many covers, or an argument is too large. No component makes
  -- omega wide.
  pub data IsWideBy (x : ℕ) : Paths → Type 0 where
    by_covers : {q : TypePath} {n : Paths} (k : ℕ) → HasManyCovers (more q n) x k → IsWideBy x (more q n)
    by_size : {q : TypePath} {n : Paths} (c : Choice) → c.component ≡ x → IsTooLarge (more q n) c → IsWideBy x (more q n)

  -- some component makes the goal wide
  pub record IsWide (goal : Paths) : Type 0 where
    pub component : ℕ
    pub declared : component < length l.components
    pub wide : IsWideBy component goal
