-- internal: where the sizes of the terms that may stand on a page end
use Rattle.std.specs.Prelude.{ℕ, ◌≡◌, ◌≤◌, ◌<◌, ◌⊎◌, List, Contains}
use Rattle.cls_base.specs.Limits.{max_term_length}
use Rattle.cls_base.specs.Terms.{Applicative, length_of, size_of}
use Rattle.cls_base.specs.declared.rule.Rule.{Rule}
use Rattle.cls_base.specs.declared.rule.Rule.TheVariants.{Head}
use Rattle.cls_base.specs.Languages.{IsGenerated}

-- no component that heads one of the rules costs more
abbrev pub CostAtMost : (ℕ → ℕ) → ℕ → List (Rule ℕ) → Type 0
CostAtMost cost most rules = (x : ℕ) (ns : List ℕ) → Contains rules (Head x ns) → cost x ≤ most

-- s is the greatest size that is asked for, or all terms of all nodes that may stand on a page are smaller than s
abbrev pub EndsAt : List (List (Rule ℕ)) → (ℕ → ℕ) → ℕ → ℕ → Type 0
EndsAt book cost max s =
    (s ≡ max) ⊎ ((n : ℕ) (e : Applicative) → IsGenerated book n e → length_of e ≤ max_term_length → size_of cost e < s)
