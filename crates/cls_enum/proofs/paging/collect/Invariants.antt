use Rattle.std.proofs.Common.{◌≡◌, ◌≤◌, length}
use Rattle.cls_term.specs.Costs.{cost_of}
use Rattle.cls_enum.specs.Plans.{book_of, AllReady}
use Rattle.cls_enum.specs.PageRequests.{request_of}
use Rattle.cls_enum.specs.States.{IsKept}
use Rattle.cls_enum.proofs.paging.collect.Given as goal

abbrev pub invariant-loop-size : goal.invariant-loop-size
invariant-loop-size l = record {
  kept : IsKept (book_of l.fn.plans.items) (request_of l.request) l.size 0 l.enumeration.bank l.enumeration.cells l.enumeration.due.items l.enumeration.total;
  within : l.enumeration.total ≤ l.request.pool;
  few : length l.enumeration.due.items ≤ l.request.take;
  book : book_of l.current.items ≡ book_of l.fn.plans.items;
  ready : AllReady (book_of l.fn.plans.items) (cost_of l.request.costs.now) l.size l.current.items;
}
