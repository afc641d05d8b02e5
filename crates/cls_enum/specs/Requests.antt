-- What a page is asked for.
use Rattle.std.specs.Prelude.{ℕ, zero, suc, Bool, true, List, ◌++◌, Option, None, Some}
use Rattle.std.specs.List.{filter}
use Rattle.std.specs.Ordering.{is_gt}
use Rattle.cls_base.specs.Terms.{Applicative}
use Rattle.cls_base.specs.Pages.{Request}
use Rattle.cls_term.specs.Costs.{cost_of}
use Rattle.cls_term.specs.Order.{order_of}

-- a component that has no cost in the list costs 1
abbrev pub request : List ℕ → Option Applicative → ℕ → ℕ → Request
request costs after max take = record { cost = cost_of costs; max = max; take = take; after = after }

-- the term comes after the token, where there is one
abbrev pub later : (ℕ → ℕ) → Option Applicative → Applicative → Bool
later cost None e = true
later cost (Some a) e = is_gt (order_of cost e a)

-- the due numbers, with those that pass the test where the node is the start
abbrev pub due_after : ℕ → (ℕ → Bool) → List ℕ → List ℕ → List ℕ
due_after zero passes due numbers = due ++ filter passes numbers
due_after (suc node) passes due numbers = due
