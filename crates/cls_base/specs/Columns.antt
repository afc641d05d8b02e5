-- Rules in columns: the head of each rule, and its arguments.
use Rattle.std.specs.Prelude.{ℕ, ◌≡◌, List, [], ◌∷◌, Option, Some, None, length}
use Rattle.cls_base.specs.declared.rule.Rule.{Rule}
use Rattle.cls_base.specs.declared.rule.Rule.TheVariants.{Head, Any}
use Rattle.cls_base.specs.declared.rule_ref.RuleRef.{RuleRef}
use Rattle.cls_base.specs.declared.rule_ref.RuleRef.TheVariants as refs

module _ {G : Type 0} where
  -- The rule with this component at its head, or with any term there, and these arguments. The last case has no
  -- meaning: `HasArguments` rules it out.
  abbrev pub rule_with : Option ℕ → List G → Rule G
  rule_with (Some x) args = Head x args
  rule_with None (l ∷ m ∷ args) = Any l m
  rule_with None args = Head 0 args

  -- a rule for any term has two arguments
  abbrev pub HasArguments : Option ℕ → List G → Type 0
  HasArguments (Some x) args = Unit {0}
  HasArguments None args = length args ≡ 2

  abbrev pub rules_with : List (Option ℕ) → List (List G) → List (Rule G)
  rules_with [] lists = []
  rules_with (h ∷ hs) [] = []
  rules_with (h ∷ hs) (args ∷ lists) = rule_with h args ∷ rules_with hs lists

  -- each rule has its arguments
  abbrev pub AreColumns : List (Option ℕ) → List (List G) → Type 0
  AreColumns [] [] = Unit {0}
  AreColumns [] (args ∷ lists) = ⊥
  AreColumns (h ∷ hs) [] = ⊥
  AreColumns (h ∷ hs) (args ∷ lists) = HasArguments h args × AreColumns hs lists

-- the rule that is referred to
abbrev pub rule_of : RuleRef → Rule ℕ
rule_of (refs.Head x ns) = Head x ns.now
rule_of (refs.Any l m) = Any l m
