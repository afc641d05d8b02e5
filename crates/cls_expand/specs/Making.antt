-- internal: how the rules of a goal are made, component by component and cover by cover
use Rattle.std.specs.Prelude.{ℕ, ◌≡◌, ◌+◌, ◌≤◌, ◌<◌, ◌⊎◌, Bool, MatchBool, List, [], ◌∷◌, ◌++◌, map, Contains, slice_index_or, Option, None, Some}
use Rattle.std.specs.List.{AllZip}
use Rattle.cls_base.specs.declared.rule.Rule.{Rule}
use Rattle.cls_base.specs.declared.rule.Rule.TheVariants.{Head}
use Rattle.cls_path.specs.Paths.{TypePath, unit, Paths, none, append, listed}
use Rattle.cls_core.specs.declared.answer.Answer.{Answer}
use Rattle.cls_core.specs.declared.answer.Answer.TheVariants.{Rules, Wide}
use Rattle.cls_library.specs.declared.place.Place.{Place}
use Rattle.cls_library.specs.Arrows.{MultiArrow}
use Rattle.cls_library.specs.Families.{IsEarlier, IsPlace, IsBefore, IsNextPlace, NoneBeginsAt}
use Rattle.cls_library.specs.Libraries.{Library}
use Rattle.cls_library.specs.Rules.{Choice, AreChoices, IsChoice, IsRuleFor, IsTooLarge, HasManyCovers, IsWideBy, FirstOnes}
use Rattle.cls_expand.specs.Answers.{rule_of}
use Rattle.cls_expand.specs.declared.spine.Spine.{Spine}

-- the rule of a spine
abbrev pub rule_of_spine : Spine → Rule Paths
rule_of_spine s = Head s.component (map listed s.args.items)

abbrev pub rules_of_spines : List Spine → List (Rule Paths)
rules_of_spines spines = map rule_of_spine spines

abbrev pub no_arrow : MultiArrow
no_arrow = record { sources = []; target = unit }

-- the arrows at the positions
abbrev pub picked_of : List MultiArrow → List ℕ → List MultiArrow
picked_of arrows [] = []
picked_of arrows (i ∷ s) = slice_index_or arrows i no_arrow ∷ picked_of arrows s

-- the sources that the arrows have at one place, one after another
abbrev pub gathered : ℕ → List MultiArrow → Paths
gathered place [] = none
gathered place (a ∷ rest) = append (slice_index_or a.sources place none) (gathered place rest)

-- the choices from one component on, up to n arguments of component x
abbrev pub IsChosen : Library → Paths → ℕ → ℕ → ℕ → Choice → Type 0
IsChosen l goal from x n c = IsChoice l goal c × (from ≤ c.component) × IsEarlier x n c.component c.places

abbrev pub choice_at : ℕ → ℕ → List ℕ → Choice
choice_at x n s = record { component = x; places = n; cover = s }

-- the rules are what the choices before component x and n arguments make, and covers of these
pub record AreBegun (l : Library) (goal : Paths) (from x n : ℕ) (covers : List (List ℕ)) (rules : List (Rule Paths)) : Type 0 where
  pub choices : List Choice
  pub chosen : AreChoices l (IsChosen l goal from x n) choices
  pub candidates : List (Rule Paths)
  pub made : AllZip (IsRuleFor l) (choices ++ map (choice_at x n) covers) candidates
  pub first_ones : FirstOnes [] candidates rules
  pub fit : (c : Choice) → Contains (choices ++ map (choice_at x n) covers) c → IsTooLarge l goal c → ⊥
  pub narrow : (y k : ℕ) → from ≤ y → IsEarlier x n y k → HasManyCovers l goal y k → ⊥

-- the next place before a component where an arrow may lead to the goal's first path, if there is one
abbrev pub IsNextBefore : Library → Paths → Place → ℕ → Option Place → Type 0
IsNextBefore l goal from end None =
    (p : Place) → IsPlace l p → (IsBefore p from → ⊥) → p.component < end → NoneBeginsAt l goal p
IsNextBefore l goal from end (Some p) = IsNextPlace l goal from p × (p.component < end)

-- the rules of the place are added, or they make the goal wide
abbrev pub AddsPlace :
    Library → List TypePath → Place → List (Rule (List TypePath)) → List (Rule (List TypePath)) → Bool → Type 0
AddsPlace l goal p old new narrow =
    (begin : ℕ) → begin ≤ p.component → AreBegun l (listed goal) begin p.component p.count [] (map rule_of old)
    → MatchBool narrow (AreBegun l (listed goal) begin p.component (p.count + 1) [] (map rule_of new))
    (IsWideBy l p.component (listed goal))

-- the rules by the components from one on that come before another one, or that one of these makes the goal wide
abbrev pub AreRulesBetween : Library → List TypePath → ℕ → ℕ → Answer (List TypePath) → Type 0
AreRulesBetween l goal begin end (Rules rs) = AreBegun l (listed goal) begin end 0 [] (map rule_of rs)
AreRulesBetween l goal begin end Wide = (x : ℕ) × (begin ≤ x) × (x < end) × IsWideBy l x (listed goal)

-- the rules by the components from one on that come before another one are put behind those by earlier components, or one of
-- these makes the goal wide
abbrev pub PutsBetween : Library → List TypePath → ℕ → ℕ → List (Rule (List TypePath)) → Answer (List TypePath) → Type 0
PutsBetween l goal begin end old answer =
    (first : ℕ) → first ≤ begin → AreBegun l (listed goal) first begin 0 [] (map rule_of old) → AreRulesBetween l goal first end answer

-- x is put last, unless it is one of some
abbrev pub PutsNew : {A : Type 0} → List A → A → List A → List A → Type 0
PutsNew some x old new = (Contains some x × (new ≡ old)) ⊎ ((Contains some x → ⊥) × (new ≡ old ++ x ∷ []))
