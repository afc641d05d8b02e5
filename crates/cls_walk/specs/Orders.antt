-- Rules in the order in which their terms' codes begin.
use Rattle.std.specs.Prelude.{ℕ, ◌≡◌, ◌<◌, ◌≤◌, ◌⊎◌, List, [], ◌∷◌, length}
use Rattle.cls_base.specs.declared.rule.Rule.{Rule}
use Rattle.cls_base.specs.Languages.{rules_at}
use Rattle.cls_enum.specs.Members.{IsIn}
use Rattle.cls_walk.specs.Counts.{HeadRule, heads_of}

-- terms by the first head rule come before those by the second, or the rules are of one kind
abbrev pub NotAfter : HeadRule → HeadRule → Type 0
NotAfter h g = (h.0 < g.0) ⊎ ((h.0 ≡ g.0) × (length h.1 ≤ length g.1))

abbrev pub InOrder : List HeadRule → Type 0
InOrder [] = Unit {0}
InOrder (h ∷ hs) = ((g : HeadRule) → IsIn hs g → NotAfter h g) × InOrder hs

-- the head rules of each node are in order
abbrev pub IsOrdered : List (List (Rule ℕ)) → Type 0
IsOrdered book = (n : ℕ) → InOrder (heads_of (rules_at book n))
