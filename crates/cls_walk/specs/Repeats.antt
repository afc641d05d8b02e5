-- internal: the forms of a node whose only pair of nodes, if it has any, applies its own terms
use Rattle.std.specs.Prelude.{ℕ, zero, suc, ◌≡◌, List, [], ◌∷◌, ◌++◌, Option, None, Some}
use Rattle.std.specs.List.{flat_map}
use Rattle.cls_base.specs.declared.rule.Rule.{Rule}
use Rattle.cls_enum.specs.Candidates.{over}
use Rattle.cls_walk.specs.Counts.{HeadRule, heads_of, pairs_of}

abbrev pub copies : ℕ → ℕ → List ℕ
copies m zero = []
copies m (suc k) = copies m k ++ m ∷ []

-- Terms of node n may be applied to any number of terms of node m more, or to none.
abbrev pub IsRepeat : ℕ → List (Rule ℕ) → Option ℕ → Type 0
IsRepeat n rules None = pairs_of rules ≡ []
IsRepeat n rules (Some m) = pairs_of rules ≡ (n, m) ∷ []

-- a head rule, with fewer than so many further arguments
abbrev pub repeated : Option ℕ → ℕ → HeadRule → List HeadRule
repeated None size h = h ∷ []
repeated (Some m) size h = over size (λ j. (h.0, h.1 ++ copies m j) ∷ [])

abbrev pub forms_by : Option ℕ → ℕ → List (Rule ℕ) → List HeadRule
forms_by repeat size rules = flat_map (repeated repeat size) (heads_of rules)
