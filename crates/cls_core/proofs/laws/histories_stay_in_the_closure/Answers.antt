use Rattle.cls_core.proofs.Closure.{replay-sound}
use Rattle.cls_core.proofs.Times.{at-most-once}
use Rattle.cls_core.proofs.laws.histories_stay_in_the_closure.Goals as goal

pub returns : goal.returns
returns g c = λ tag start es t h.
    let eq = g.E.Goal.PartialEq.eq in
    let exact = g.met.E.Goal.Key.exact in
    let reflexive = g.met.E.Goal.Eq.laws.refl in
    let is_answer = g.E.Expand.answers tag in
    let s = replay-sound eq exact reflexive is_answer start es t h in
    (s.distinct, s.reached, at-most-once eq is_answer start es t h)
