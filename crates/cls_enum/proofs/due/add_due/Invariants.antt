use Rattle.std.proofs.Common.{◌≡◌, ◌++◌, take}
use Rattle.std.specs.Prelude.{option_copied}
use Rattle.std.specs.List.{filter}
use Rattle.cls_term.specs.Banks.{at}
use Rattle.cls_term.specs.Costs.{cost_of}
use Rattle.cls_enum.specs.Requests.{later}
use Rattle.cls_enum.proofs.due.add_due.Given as goal

abbrev pub invariant-loop-number : goal.invariant-loop-number
invariant-loop-number l = l.due.items ≡ l.fn.due.items ++ filter (λ n. later (cost_of l.request.costs.now) (option_copied l.request.after) (at l.bank n)) (take l.number-index l.numbers)
