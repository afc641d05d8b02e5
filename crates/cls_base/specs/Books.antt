-- Rule books as lists of rules.
use Rattle.std.specs.Prelude.{ℕ, zero, suc, ◌<◌, List, [], ◌∷◌, ◌++◌}
use Rattle.cls_base.specs.Lists.{AreBelow}
use Rattle.cls_base.specs.declared.rule.Rule.{Rule}
use Rattle.cls_base.specs.declared.rule.Rule.TheVariants.{Head, Any}

-- the arguments of the rule are nodes below n
abbrev pub HasNodesBelow : ℕ → Rule ℕ → Type 0
HasNodesBelow n (Head x ns) = AreBelow n ns
HasNodesBelow n (Any l m) = (l < n) × (m < n)

abbrev pub HaveNodesBelow : ℕ → List (Rule ℕ) → Type 0
HaveNodesBelow n [] = Unit {0}
HaveNodesBelow n (r ∷ rs) = HasNodesBelow n r × HaveNodesBelow n rs

-- the components below n, each alone
abbrev pub heads : ℕ → List (Rule ℕ)
heads zero = []
heads (suc n) = heads n ++ Head n [] ∷ []

-- and then any term applied to any
abbrev pub omega_rules : ℕ → List (Rule ℕ)
omega_rules n = heads n ++ Any 0 0 ∷ []

-- the rule book of omega over n components: node 0 alone
abbrev pub omega_book : ℕ → List (List (Rule ℕ))
omega_book n = omega_rules n ∷ []
