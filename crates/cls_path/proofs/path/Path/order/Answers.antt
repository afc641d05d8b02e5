use Rattle.cls_path.proofs.Sorting.{path_order-less, path_order-equal, path_order-greater}
use Rattle.cls_path.proofs.path.Path.order.Goals as goal

pub returns-clause-less : goal.returns-clause-less
returns-clause-less c = rw c.order_by_kind.ensures (path_order-less c.args.self.now c.args.other.now)

pub returns-clause-equal : goal.returns-clause-equal
returns-clause-equal c = rw c.order_by_kind.ensures (path_order-equal c.args.self.now c.args.other.now)

pub returns-clause-greater : goal.returns-clause-greater
returns-clause-greater c = rw c.order_by_kind.ensures (path_order-greater c.args.self.now c.args.other.now)
