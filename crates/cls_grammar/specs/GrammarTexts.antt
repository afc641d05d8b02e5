-- The text of a grammar.
use Rattle.std.specs.Prelude.{◌≡◌, ℕ, ◌+◌, ◌<◌, ◌≤◌, List, [], ◌∷◌, ◌++◌, length, drop, codes, flat_map, Option, Some, None}
use Rattle.std.specs.Fmt.{decimal}
use Rattle.std.specs.List.{sum_by}
use Rattle.cls_path.specs.Paths.{TypePath, listed, type_of_paths}
use Rattle.cls_syntax.specs.TypePrinting.{printed}
use Rattle.cls_base.specs.Languages.{rules_at}
use Rattle.cls_core.specs.Arguments.{rules_of, rule_count}
use Rattle.cls_core.specs.Rows.{Row}
use Rattle.cls_base.specs.declared.rule.Rule.{Rule}
use Rattle.cls_base.specs.declared.rule.Rule.TheVariants.{Head, Any}
use Rattle.cls_grammar.specs.declared.printing.GrammarPlace.{GrammarPlace}
use Rattle.cls_grammar.specs.declared.printing.GrammarPlace.TheVariants as places
use Rattle.cls_grammar.specs.Grammars.{book_of}
use Rattle.cls_grammar.specs.Ranks.{AreRanks}

-- the numbers, each after a space
abbrev pub numbers_text : List ℕ → List ℕ
numbers_text ns = flat_map (λ n. codes " " ++ decimal n) ns

abbrev pub line : List ℕ → List ℕ
line text = text ++ 10 ∷ []

abbrev pub rank_text : Option ℕ → List ℕ
rank_text None = codes "empty"
rank_text (Some h) = codes "rank " ++ decimal h

-- the names of components
module _ (component : ℕ → List ℕ) where
  abbrev pub rule_text : Rule ℕ → List ℕ
  rule_text (Head x ns) = codes "rule " ++ component x ++ numbers_text ns
  rule_text (Any l m) = codes "any " ++ decimal l ++ codes " " ++ decimal m

  -- a line for each rule
  abbrev pub rules_text : List (Rule ℕ) → List ℕ
  rules_text rs = flat_map (λ r. line (rule_text r)) rs

-- the names of constructors
abbrev pub goal_text : (ℕ → List ℕ) → ℕ → List TypePath → Option ℕ → List ℕ
goal_text name i goal rank =
    let type = printed name 0 (type_of_paths (listed goal)) in
    line (codes "goal " ++ decimal i ++ codes " " ++ rank_text rank ++ codes " " ++ type)

-- the numbers of goals and rules
abbrev pub counts_text : List (Row (List TypePath)) → List ℕ
counts_text rows =
    line (codes "grammar " ++ decimal (length rows) ++ codes " " ++ decimal (sum_by (λ r. rule_count r.answer) rows))

-- the names of constructors and of components
module _ (name component : ℕ → List ℕ) where
  abbrev pub row_text : ℕ → Row (List TypePath) → Option ℕ → List ℕ
  row_text i r rank = goal_text name i r.goal rank ++ rules_text component (rules_of r.answer)

  abbrev pub rows_text : ℕ → List (Row (List TypePath)) → List (Option ℕ) → List ℕ
  rows_text i [] ranks = []
  rows_text i (r ∷ rs) [] = []
  rows_text i (r ∷ rs) (rank ∷ ranks) = row_text i r rank ++ rows_text (i + 1) rs ranks

  abbrev pub grammar_text : List (Row (List TypePath)) → List (Option ℕ) → List ℕ
  grammar_text rows ranks = counts_text rows ++ rows_text 0 rows ranks ++ line (codes "done")

  -- the text of the grammar with the ranks of its goals
  abbrev pub IsGrammarText : List (Row (List TypePath)) → List ℕ → Type 0
  IsGrammarText rows text = (ranks : List (Option ℕ)) × AreRanks (book_of rows) ranks × (text ≡ grammar_text rows ranks)

  -- what stands from a place of the text on, by the ranks of the goals
  module _ (rows : List (Row (List TypePath))) (ranks : List (Option ℕ)) where
    -- the goals from a number on, each with its rules, and the last line
    abbrev pub goals_from : ℕ → List ℕ
    goals_from i = rows_text i (drop i rows) (drop i ranks) ++ line (codes "done")

    abbrev pub lines_from : GrammarPlace → List ℕ
    lines_from places.Counts = grammar_text rows ranks
    lines_from (places.Goal i) = goals_from i
    lines_from (places.Rule i j) = rules_text component (drop j (rules_at (book_of rows) i)) ++ goals_from (i + 1)

    -- the same where nothing may be left
    abbrev pub lines_left : Option GrammarPlace → List ℕ
    lines_left None = []
    lines_left (Some place) = lines_from place

-- The text has such a place: a goal with its rules, or the end of the goals.
abbrev pub IsPlaceIn : List (Row (List TypePath)) → GrammarPlace → Type 0
IsPlaceIn rows places.Counts = Unit {0}
IsPlaceIn rows (places.Goal i) = i ≤ length rows
IsPlaceIn rows (places.Rule i j) = i < length rows
