-- A grammar without the rules that have an unproductive argument.
use Rattle.std.specs.Prelude.{◌≡◌, ◌↔◌, ℕ, Bool, false, List, map, filter, slice_index_or}
use Rattle.std.specs.List.{list_all}
use Rattle.cls_base.specs.Terms.{Applicative}
use Rattle.cls_base.specs.declared.rule.Rule.{Rule}
use Rattle.cls_base.specs.Languages.{IsGenerated}
use Rattle.cls_core.specs.declared.answer.Answer.{Answer}
use Rattle.cls_core.specs.declared.answer.Answer.TheVariants.{Rules, Wide}
use Rattle.cls_base.specs.Arguments.{arguments_of_rule}
use Rattle.cls_core.specs.Rows.{Row}
use Rattle.cls_grammar.specs.Grammars.{book_of}
use Rattle.cls_grammar.specs.Ranks.{AreProductive}

module _ (flags : List Bool) where
  abbrev pub is_flagged : ℕ → Bool
  is_flagged i = slice_index_or flags i false

  -- each argument of the rule has the flag
  abbrev pub is_useful : Rule ℕ → Bool
  is_useful r = list_all is_flagged (arguments_of_rule r)

  abbrev pub useful_answer : Answer ℕ → Answer ℕ
  useful_answer (Rules rs) = Rules (filter is_useful rs)
  useful_answer Wide = Wide

  -- the row without the rules that aren't useful
  abbrev pub useful_row : {G : Type 0} → Row G → Row G
  useful_row r = record { goal = r.goal; answer = useful_answer r.answer }

-- The rows, each without the rules that have an unproductive argument.
pub record IsTrimmed {G : Type 0} (rows trimmed : List (Row G)) : Type 0 where
  pub flags : List Bool
  pub productive : AreProductive (book_of rows) flags
  pub rows_are : trimmed ≡ map (useful_row flags) rows

-- each node generates the same terms by both books
abbrev pub HaveSameLanguages : List (List (Rule ℕ)) → List (List (Rule ℕ)) → Type 0
HaveSameLanguages book other = (i : ℕ) (e : Applicative) → IsGenerated book i e ↔ IsGenerated other i e
