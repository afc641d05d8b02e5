-- internal: rules of which no two make the same term, told by their openings alone
use Rattle.std.specs.Prelude.{ℕ, ◌≡◌, ◌+◌, ◌<◌, ◌≤◌, ◌⊎◌, max, Bool, true, false, List, [], ◌∷◌, length}
use Rattle.cls_base.specs.declared.rule.Rule.{Rule}
use Rattle.cls_base.specs.declared.rule.Rule.TheVariants.{Head, Any}
use Rattle.cls_base.specs.Languages.{rules_at}
use Rattle.cls_walk.specs.declared.apart.Seen.{Seen}

-- Rules that are apart from one another and from those before them. The head rules before end with component x, and the
-- next one with it has k arguments or more; whether a pair of nodes is before; m is the greatest number of arguments.
abbrev pub AreApartFrom : ℕ → ℕ → Bool → ℕ → List (Rule ℕ) → Type 0
AreApartFrom x k pair m [] = Unit {0}
AreApartFrom x k pair m (Head y ns ∷ rs) =
    ((x < y) ⊎ ((x ≡ y) × (k ≤ length ns))) × ((pair ≡ false) ⊎ (length ns ≡ 0))
    × AreApartFrom y (length ns + 1) pair (max m (length ns)) rs
AreApartFrom x k pair m (Any l r ∷ rs) = (pair ≡ false) × (m ≡ 0) × AreApartFrom x k true m rs

-- the same behind what is seen
abbrev pub AreApartBehind : Seen → List (Rule ℕ) → Type 0
AreApartBehind s rs = AreApartFrom s.component s.least s.has_pair s.most rs

-- the rules of a node, and those of each node
abbrev pub AreApart : List (Rule ℕ) → Type 0
AreApart rs = AreApartFrom 0 0 false 0 rs

abbrev pub AreAllApart : List (List (Rule ℕ)) → Type 0
AreAllApart book = (n : ℕ) → AreApart (rules_at book n)
