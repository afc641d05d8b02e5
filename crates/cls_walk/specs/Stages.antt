-- internal: the numbers of ways of one size, each capped
use Rattle.std.specs.Prelude.{ℕ, ◌≡◌, Bool, List, slice_index}
use Rattle.cls_base.specs.declared.rule.Rule.{Rule}
use Rattle.cls_base.specs.Languages.{rules_at}
use Rattle.cls_term.specs.Costs.{cost_of}
use Rattle.cls_walk.specs.Counts.{HeadRule, head_ways, head_ways_if, pair_ways, rule_ways, all_ways, sure_ways}
use Rattle.cls_walk.specs.Counts.{up_to_64}
use Rattle.cls_walk.specs.Tables.{capped, number_at}
use Rattle.cls_walk.specs.declared.stage.Stage.{Stage}

module _ (stage : Stage) where
  -- the numbers of smaller terms, and the costs
  abbrev pub counts : ℕ → ℕ → ℕ
  counts = number_at stage.table.now

  abbrev pub costs : ℕ → ℕ
  costs = cost_of stage.costs.now

  -- of a head rule, a pair of nodes, a rule, and all of a list of rules
  abbrev pub head_count : HeadRule → ℕ
  head_count h = capped (head_ways counts costs stage.size h)

  abbrev pub pair_count : ℕ × ℕ → ℕ
  pair_count p = capped (pair_ways counts stage.size p)

  abbrev pub rule_count : Rule ℕ → ℕ
  rule_count r = capped (rule_ways counts costs stage.size r)

  abbrev pub rules_count : List (Rule ℕ) → ℕ
  rules_count rules = capped (all_ways counts costs stage.size rules)

  -- of terms that are surely different
  abbrev pub sure_count : List (Rule ℕ) → ℕ
  sure_count rules = capped (up_to_64 stage.size (sure_ways counts costs stage.size rules))

  -- not capped: of a head rule, or of one without arguments alone
  abbrev pub ways_if : Bool → HeadRule → ℕ
  ways_if alone = head_ways_if counts costs stage.size alone

-- the column has such a number for each node of the book
abbrev pub IsColumn : List (List (Rule ℕ)) → (List (Rule ℕ) → ℕ) → List ℕ → Type 0
IsColumn book count column = (n : ℕ) → slice_index column n ≡ count (rules_at book n)
