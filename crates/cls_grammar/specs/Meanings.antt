-- What the grammar of a goal means if the answers of goals are the rules of a typing.
use Rattle.std.specs.Prelude.{◌≡◌, ◌↔◌, ℕ, List, Some, None, Bool, slice_get}
use Rattle.cls_base.specs.Terms.{Applicative}
use Rattle.cls_base.specs.Languages.{IsGenerated}
use Rattle.cls_core.specs.declared.answer.Answer.{Answer}
use Rattle.cls_core.specs.Canonical.{IsCanonical}
use Rattle.cls_core.specs.Rows.{Row}
use Rattle.cls_grammar.specs.Grammars.{book_of, first_wide}
use Rattle.cls_grammar.specs.Ranks.{IsProductiveIn}

-- HasGoal e g says that the term e has the type that g stands for
module _ {G : Type 0} (HasGoal : Applicative → G → Type 0) where
  module _ (eq : G → G → Bool) (IsAnswer : G → Answer G → Type 0) (IsReady : G → Type 0) where
    -- Each node of the canonical grammar of a goal generates exactly the terms that have its goal, if no goal is wide.
    abbrev pub LanguagesAreTypings : Type 0
    LanguagesAreTypings =
        (start : G) (rows : List (Row G)) → IsReady start → IsCanonical eq IsAnswer start rows → first_wide rows ≡ None
        → (i : ℕ) (r : Row G) → slice_get rows i ≡ Some r
        → (e : Applicative) → IsGenerated (book_of rows) i e ↔ HasGoal e r.goal

    -- There a node is productive if and only if some term has its goal.
    abbrev pub ProductiveGoalsHaveTerms : Type 0
    ProductiveGoalsHaveTerms =
        (start : G) (rows : List (Row G)) → IsReady start → IsCanonical eq IsAnswer start rows → first_wide rows ≡ None
        → (i : ℕ) (r : Row G) → slice_get rows i ≡ Some r
        → IsProductiveIn (book_of rows) i ↔ ((e : Applicative) × HasGoal e r.goal)
