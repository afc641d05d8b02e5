use Rattle.cls_core.proofs.Closure.{replay-sound, complete-reaches}
use Rattle.cls_core.proofs.laws.complete_histories_agree.Goals as goal

pub returns : goal.returns
returns g c = λ tag start es fs t u h k x.
    let eq = g.E.Goal.PartialEq.eq in
    let exact = g.met.E.Goal.Key.exact in
    let reflexive = g.met.E.Goal.Eq.laws.refl in
    let is_answer = g.E.Expand.answers tag in
    let unique = g.met.E.Expand.one_answer tag in
    let s = replay-sound eq exact reflexive is_answer start es t h.0 in
    let r = replay-sound eq exact reflexive is_answer start fs u k.0 in (
      λ m. complete-reaches eq exact reflexive is_answer start unique u r k.1 x (s.reached x m),
      λ m. complete-reaches eq exact reflexive is_answer start unique t s h.1 x (r.reached x m),
    )
