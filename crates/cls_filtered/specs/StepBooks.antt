-- internal: a stepwise book in columns
use Rattle.std.specs.Prelude.{ℕ, List, [], ◌∷◌, ◌++◌, map}
use Rattle.cls_base.specs.Cuts.{cut}
use Rattle.cls_base.specs.declared.rule.Rule.{Rule}
use Rattle.cls_base.specs.declared.rule.Rule.TheVariants.{Head, Any}
use Rattle.cls_filtered.specs.declared.step.Step.{Step}
use Rattle.cls_filtered.specs.declared.step.Step.TheVariants.{Component, Application}

-- the rule that the step is
abbrev pub step_rule : Step → Rule ℕ
step_rule (Component x) = Head x []
step_rule (Application l m) = Any l m

abbrev pub part_node : Step → List (Rule ℕ)
part_node s = step_rule s ∷ []

-- the last steps of the rules of each node, up to these ends, and behind them the parts
abbrev pub step_book : List Step → List ℕ → List Step → List (List (Rule ℕ))
step_book lasts ends parts = cut (map step_rule lasts) 0 ends ++ map part_node parts
