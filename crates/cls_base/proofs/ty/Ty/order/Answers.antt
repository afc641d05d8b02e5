use Rattle.cls_base.specs.Ty.{type_of}
use Rattle.cls_base.proofs.TypeOrders.{order_of-equal}
use Rattle.cls_base.proofs.ty.Ty.order.Goals as goal

pub returns-clause-equal : goal.returns-clause-equal
returns-clause-equal c = rw c.order_by_parts.ensures (order_of-equal (type_of c.args.self.now) (type_of c.args.other.now))
