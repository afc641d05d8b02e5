-- The renumbering of rows: breadth first from one of them, in the order of rules and of arguments within a rule.
use Rattle.std.specs.Prelude.{ℕ, zero, suc, Bool, List, [], ◌∷◌, Option, None, Some, length, map, nat_eq, slice_get}
use Rattle.std.specs.List.{filter_map}
use Rattle.cls_core.specs.declared.answer.Answer.{Answer}
use Rattle.cls_core.specs.declared.answer.Answer.TheVariants.{Wide}
use Rattle.cls_core.specs.Machine.{grown, numbered}
use Rattle.cls_core.specs.Rows.{Row}

-- Goals that are found breadth first. The function `answer` gives an answer of each goal.
module _ {G : Type 0} (eq : G → G → Bool) (answer : G → Answer G) where
  -- the goals, and behind them in order the arguments of this goal that aren't among them, if there is a goal
  abbrev pub worked_off : List G → Option G → List G
  worked_off gs None = gs
  worked_off gs (Some g) = grown eq gs (answer g)

  -- The goals that are found from the start goal, in the order in which they are found. As many of them as the number
  -- says were worked off, one after the other from the first one on.
  abbrev pub found : G → ℕ → List G
  found start zero = start ∷ []
  found start (suc k) = let gs = found start k in worked_off gs (slice_get gs k)

module _ {G : Type 0} where
  abbrev pub answer_in : Option (Row G) → Answer ℕ
  answer_in None = Wide
  answer_in (Some r) = r.answer

  -- the answer of the row with this number, or one without arguments if there is no such row
  abbrev pub row_answer : List (Row G) → ℕ → Answer ℕ
  row_answer rows n = answer_in (slice_get rows n)

  -- the numbers of the rows that are found from the row k, breadth first
  abbrev pub order_from : ℕ → List (Row G) → List ℕ
  order_from k rows = found nat_eq (row_answer rows) k (length rows)

  -- the numbers of the rows, breadth first from the first one
  abbrev pub order : List (Row G) → List ℕ
  order rows = order_from 0 rows

  -- the row, with each argument replaced by its place among the numbers
  abbrev pub placed : List ℕ → Row G → Row G
  placed numbers r = record { goal = r.goal; answer = numbered nat_eq numbers r.answer }

  -- the rows that are found from the row k in their order, with the new number of its row for each argument
  abbrev pub renumbered_from : ℕ → List (Row G) → List (Row G)
  renumbered_from k rows = map (placed (order_from k rows)) (filter_map (slice_get rows) (order_from k rows))

  -- the same from the first row on
  abbrev pub renumbered : List (Row G) → List (Row G)
  renumbered rows = renumbered_from 0 rows
