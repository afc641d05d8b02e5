use Rattle.std.proofs.Common.{arith, ap, length}
use Rattle.cls_core.proofs.FiledRows.{filed-count}
use Rattle.cls_core.proofs.finished.Rows.count.Goals as goal

pub returns : goal.returns
returns g c =
    let i = c.self.inside in
    let k = c.self.invariant in
    omega (arith, c.len.ensures, i.states.ok.0, k.paired, filed-count i.goals.keys i.states.items k.paired k.filed, ap length c.self.view_is)
