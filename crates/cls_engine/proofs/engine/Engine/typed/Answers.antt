use Rattle.cls_base.specs.Ty.{type_of}
use Rattle.cls_engine.proofs.Languages.{same_terms}
use Rattle.cls_engine.proofs.engine.Engine.typed.Goals as goal

pub returns-clause-exact : goal.returns-clause-exact
returns-clause-exact c =
    let u = same_terms c.args.self.now.library (type_of c.args.ty.now) c.in_ok-goal.goal c.in_ok-goal.ensures c.args.term.now in
    let v = rw c.library.ensures at c.in_ok-has_type.ensures in
    ((λ h. u.0 (v.0 h)), (λ h. v.1 (u.1 h)))

pub has_type-requires-clause-normal : goal.has_type-requires-clause-normal
has_type-requires-clause-normal c = rw c.library.ensures c.in_ok-goal.ensures.normal
