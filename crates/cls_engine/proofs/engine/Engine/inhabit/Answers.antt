use Rattle.cls_base.specs.Ty.{type_of}
use Rattle.cls_engine.specs.Closing.{IsKnownOf}
use Rattle.cls_engine.proofs.Deciding.{verdict-on}
use Rattle.cls_engine.proofs.Faulting.{known-silent, silent-of}
use Rattle.cls_engine.proofs.Languages.{inhabited}
use Rattle.cls_engine.proofs.engine.Engine.inhabit.Goals as goal

pub returns-clause-exact : goal.returns-clause-exact
returns-clause-exact g c =
    let u = inhabited c.args.self.now.library c.args.self.now.options (type_of c.args.ty.now) _ c.in_ok-grammar.ensures.known in
    let v = c.in_ok-inhabited.ensures in
    ((λ h. u.0 (v.0 h)), (λ h. v.1 (u.1 h)))

pub returns-clause-silent : goal.returns-clause-silent
returns-clause-silent g c =
    silent-of c.args.self.now.library c.args.self.now.options (type_of c.args.ty.now) _ c.in_ok-grammar.ensures.known

pub returns-in-Some-clause-exact : goal.returns-in-Some-clause-exact
returns-in-Some-clause-exact g c =
    let v = c.in-Some.ensures in
    let k : IsKnownOf c.args.self.now.library c.args.self.now.options (type_of c.args.ty.now) v.rows = record { goal = c.in_ok-goal.goal; is_goal = c.in_ok-goal.ensures.goal; narrow = c.in_ok-goal.ensures.narrow; known = v.known } in
    let u = inhabited c.args.self.now.library c.args.self.now.options (type_of c.args.ty.now) v.rows k in
    ((λ h. u.0 (v.verdict.0 h)), (λ h. v.verdict.1 (u.1 h)))

pub returns-in-Some-clause-silent : goal.returns-in-Some-clause-silent
returns-in-Some-clause-silent g c =
    known-silent c.args.self.now.library c.args.self.now.options (type_of c.args.ty.now) c.in_ok-goal.goal c.in_ok-goal.ensures.goal c.in_ok-goal.ensures.narrow c.in-Some.ensures.rows c.in-Some.ensures.known

pub keep_outcome-requires : goal.keep_outcome-requires
keep_outcome-requires g c =
    rw c.closure.ensures.same
    (verdict-on c.args.self.now.library c.args.self.now.options (type_of c.args.ty.now) c.in_ok-goal.goal c.in_ok-goal.ensures.goal _ c.in_ok-grammar.ensures.known c.in_ok-inhabited.inhabited c.in_ok-inhabited.ensures)

pub keep_recent-requires : goal.keep_recent-requires
keep_recent-requires g c =
    rw (c.keep_outcome.ensures.same, c.closure.ensures.same) (c.in_ok-grammar.ensures.known.goal, c.in_ok-grammar.ensures.known.known)
