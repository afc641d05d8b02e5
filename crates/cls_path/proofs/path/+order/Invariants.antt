-- The size is tripled, so that the comparing of two paths part by part is below that of the paths, and that below the
-- comparing of what stands before them too.
use Rattle.std.proofs.Common.{◌≡◌, ◌+◌, ◌*◌, ◌-◌, ◌≤◌, drop, length}
use Rattle.cls_path.specs.PathOrder.{list_order}
use Rattle.cls_path.specs.Sizes.{size_of, list_size}
use Rattle.cls_path.proofs.path.+order.Given as goal

abbrev pub decreases-Path::order_by_kind : goal.decreases-Path::order_by_kind
decreases-Path::order_by_kind l = 3 * size_of l.self.now + 1

abbrev pub decreases-Path::order_deep : goal.decreases-Path::order_deep
decreases-Path::order_deep l = 3 * size_of l.self.now

abbrev pub decreases-Path::order_behind : goal.decreases-Path::order_behind
decreases-Path::order_behind l = 3 * size_of l.self.now + 2

abbrev pub decreases-Nf::order_by_path : goal.decreases-Nf::order_by_path
decreases-Nf::order_by_path l = 3 * list_size l.self.now

abbrev pub invariant-Nf::order_by_path-loop-i : goal.invariant-Nf::order_by_path-loop-i
invariant-Nf::order_by_path-loop-i l = record {
  in_one : l.i ≤ length l.ones;
  in_two : l.i ≤ length l.others;
  rest : list_order l.ones l.others ≡ list_order (drop l.i l.ones) (drop l.i l.others);
}

abbrev pub decreases-Nf::order_by_path-loop-i : goal.decreases-Nf::order_by_path-loop-i
decreases-Nf::order_by_path-loop-i l = length l.initial.ones - l.i
