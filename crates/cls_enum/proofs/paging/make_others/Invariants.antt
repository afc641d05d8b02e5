use Rattle.std.proofs.Common.{◌≡◌, ◌≤◌, length}
use Rattle.cls_enum.specs.Plans.{book_of}
use Rattle.cls_enum.specs.PageRequests.{request_of}
use Rattle.cls_enum.specs.States.{IsKept}
use Rattle.cls_enum.proofs.paging.make_others.Given as goal

abbrev pub invariant-loop-node : goal.invariant-loop-node
invariant-loop-node l = record {
  kept : IsKept (book_of l.plans) (request_of l.request) l.size l.node l.enumeration.bank l.enumeration.cells l.enumeration.due.items l.enumeration.total;
  within : l.enumeration.total ≤ l.request.pool;
  same : length l.enumeration.due.items ≡ length l.fn.enumeration.due.items;
}
