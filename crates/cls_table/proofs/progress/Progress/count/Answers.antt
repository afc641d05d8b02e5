use Rattle.std.proofs.Common.{arith, ap, length}
use Rattle.cls_core.proofs.Closure.{replay-sound}
use Rattle.cls_table.proofs.progress.Progress.count.Goals as goal

pub returns-clause-states : goal.returns-clause-states
returns-clause-states g c =
    let i = c.self.inside in
    let sound = replay-sound g.E.Goal.PartialEq.eq g.met.E.Goal.Key.exact g.met.E.Goal.Eq.laws.refl
    (g.E.Expand.answers i.origin.by) i.origin.start i.core.history i.core.rows c.self.invariant.legal in
    omega (arith, c.count.ensures, sound.paired, ap (λ v. length v.rows.states) c.self.view_is)
