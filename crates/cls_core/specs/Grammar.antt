-- Rows as a tree grammar, whose nonterminals are the numbers of rows.
use Rattle.std.specs.Prelude.{◌≡◌, ◌<◌, ℕ, List, Some, Contains, length, slice_get}
use Rattle.cls_base.specs.Lists.{AreDistinct}
use Rattle.cls_core.specs.declared.answer.Answer.{Answer}
use Rattle.cls_core.specs.Arguments.{arguments_of}
use Rattle.cls_core.specs.Rows.{Row}
use Rattle.cls_core.specs.Closure.{IsReached, goals_of}

-- IsRowAnswer rows n a: there is a row with the number n, and a is its answer
abbrev pub IsRowAnswer : {G : Type 0} → List (Row G) → ℕ → Answer ℕ → Type 0
IsRowAnswer {G} rows n a = (r : Row G) × (slice_get rows n ≡ Some r) × (r.answer ≡ a)

-- The first row is the start goal's, the goals are distinct, each argument is the number of a row, and each row is
-- reached from the first one by arguments.
pub record IsGrammar {G : Type 0} (start : G) (rows : List (Row G)) : Type 0 where
  pub first : slice_get (goals_of rows) 0 ≡ Some start
  pub distinct : AreDistinct (goals_of rows)
  pub within : (k : ℕ) (r : Row G) → slice_get rows k ≡ Some r
      → (n : ℕ) → Contains (arguments_of r.answer) n → n < length rows
  pub connected : (k : ℕ) → k < length rows → IsReached (IsRowAnswer rows) 0 k
