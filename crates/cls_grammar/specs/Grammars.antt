-- A grammar as a list of rows: goals, each with its rules, whose arguments are numbers of rows.
use Rattle.std.specs.Prelude.{◌≡◌, ◌≤◌, ◌<◌, ◌^◌, ℕ, List, [], ◌∷◌, length, map, Option, None, Some}
use Rattle.cls_base.specs.declared.rule.Rule.{Rule}
use Rattle.cls_core.specs.declared.answer.Answer.{Answer}
use Rattle.cls_core.specs.declared.answer.Answer.TheVariants.{Rules, Wide}
use Rattle.cls_core.specs.Arguments.{rules_of}
use Rattle.cls_core.specs.Rows.{Row}
use Rattle.cls_core.specs.Grammar.{IsGrammar}
use Rattle.cls_base.specs.Books.{HaveNodesBelow}

-- the arguments of all rules are nodes below n
abbrev pub BookHasNodesBelow : ℕ → List (List (Rule ℕ)) → Type 0
BookHasNodesBelow n [] = Unit {0}
BookHasNodesBelow n (rs ∷ book) = HaveNodesBelow n rs × BookHasNodesBelow n book

module _ {G : Type 0} where
  -- a row for each goal, with its rules
  abbrev pub ruled_rows : List G → List (List (Rule ℕ)) → List (Row G)
  ruled_rows [] lists = []
  ruled_rows (g ∷ gs) [] = []
  ruled_rows (g ∷ gs) (rs ∷ lists) = record { goal = g; answer = Rules rs } ∷ ruled_rows gs lists

  -- the rule book of rows
  abbrev pub book_of : List (Row G) → List (List (Rule ℕ))
  book_of rows = map (λ r. rules_of r.answer) rows

  abbrev pub wide_or : G → Answer ℕ → Option G → Option G
  wide_or g (Rules rs) rest = rest
  wide_or g Wide rest = Some g

  -- the goal of the first row that is wide
  abbrev pub first_wide : List (Row G) → Option G
  first_wide [] = None
  first_wide (r ∷ rows) = wide_or r.goal r.answer (first_wide rows)

  -- what a grammar keeps of its columns
  pub record IsKept (goals : List G) (lists : List (List (Rule ℕ))) : Type 0 where
    -- each goal has its rules
    pub paired : length lists ≡ length goals
    pub some : 1 ≤ length goals
    -- a goal's number is one of 32 bits
    pub few : length goals < 2 ^ 32
    pub within : BookHasNodesBelow (length goals) (book_of (ruled_rows goals lists))

-- the rows make a grammar from the goal of the first one
abbrev pub MakeGrammar : {G : Type 0} → List (Row G) → Type 0
MakeGrammar {G} rows = (start : G) × IsGrammar start rows
