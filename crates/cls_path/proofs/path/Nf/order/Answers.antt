use Rattle.cls_path.proofs.Sorting.{list_order-less, list_order-equal, list_order-greater}
use Rattle.cls_path.proofs.path.Nf.order.Goals as goal

pub returns-clause-less : goal.returns-clause-less
returns-clause-less c = rw c.order_by_path.ensures (list_order-less c.args.self.now c.args.other.now)

pub returns-clause-equal : goal.returns-clause-equal
returns-clause-equal c = rw c.order_by_path.ensures (list_order-equal c.args.self.now c.args.other.now)

pub returns-clause-greater : goal.returns-clause-greater
returns-clause-greater c = rw c.order_by_path.ensures (list_order-greater c.args.self.now c.args.other.now)
