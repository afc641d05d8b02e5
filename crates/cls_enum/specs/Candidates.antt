-- internal: the terms that a rule makes of those in cells, the lists of the terms of a node of one size
use Rattle.std.specs.Prelude.{ℕ, zero, suc, ◌≡◌, ◌+◌, ◌-◌, ◌≤◌, nat_le, nat_eq, List, [], ◌∷◌, ◌++◌, if◌then◌else◌, ◌&&◌}
use Rattle.std.specs.List.{flat_map}
use Rattle.cls_base.specs.Limits.{max_term_length}
use Rattle.cls_base.specs.Terms.{Applicative, component, apply, length_of, size_of}
use Rattle.cls_base.specs.declared.rule.Rule.{Rule}
use Rattle.cls_base.specs.declared.rule.Rule.TheVariants.{Head, Any}
use Rattle.cls_base.specs.Languages.{IsGenerated}

-- what f gives at each number below n, one after another
abbrev pub over : {A : Type 0} → ℕ → (ℕ → List A) → List A
over zero f = []
over (suc n) f = over n f ++ f n

module _ (book : List (List (Rule ℕ))) (cost : ℕ → ℕ) where
  -- the terms of node i of size s that may stand on a page
  abbrev pub IsInCell : ℕ → ℕ → Applicative → Type 0
  IsInCell i s e = IsGenerated book i e × (size_of cost e ≡ s) × (length_of e ≤ max_term_length)

-- cell t n has the terms of node n of size t
module _ (cell : ℕ → ℕ → List Applicative) where
  -- f applied to a term of each node in turn, whose sizes come to `rest`
  abbrev pub fills : Applicative → List ℕ → ℕ → List Applicative
  fills f [] rest = if nat_eq rest 0 && nat_le (length_of f) max_term_length then f ∷ [] else []
  fills f (n ∷ ns) rest = over (rest + 1) (λ t. flat_map (λ a. fills (apply f a) ns (rest - t)) (cell t n))

  -- the terms of size s that a rule makes
  abbrev pub rule_terms : (ℕ → ℕ) → ℕ → Rule ℕ → List Applicative
  rule_terms cost s (Head x ns) = if nat_le (cost x) s then fills (component x) ns (s - cost x) else []
  rule_terms cost s (Any l m) = over s (λ t. flat_map (λ f. fills f (m ∷ []) (s - t)) (cell t l))

  abbrev pub candidates : (ℕ → ℕ) → ℕ → List (Rule ℕ) → List Applicative
  candidates cost s rs = flat_map (rule_terms cost s) rs
