use Rattle.cls_base.specs.Limits.{max_finite_size}
use Rattle.cls_base.specs.Ty.{type_of}
use Rattle.cls_term.specs.Costs.{cost_of}
use Rattle.cls_engine.specs.Closing.{IsKnownOf}
use Rattle.cls_engine.proofs.Deciding.{sizes-on}
use Rattle.cls_engine.proofs.Faulting.{known-silent, silent-of}
use Rattle.cls_engine.proofs.Finiteness.{type-greatest, type-over, type-unbounded, type-walk}
use Rattle.cls_engine.proofs.engine.Engine.finite.Goals as goal

pub returns-clause-greatest : goal.returns-clause-greatest
returns-clause-greatest g c =
    type-greatest c.args.self.now.library c.args.self.now.options (cost_of c.args.self.now.costs) (type_of c.args.ty.now) _ c.in_ok-grammar.ensures.known _
    (rw c.closure.ensures.same at c.in_ok-answer.ensures.greatest)

pub returns-clause-over : goal.returns-clause-over
returns-clause-over g c =
    let u = type-over c.args.self.now.library c.args.self.now.options (cost_of c.args.self.now.costs) (type_of c.args.ty.now) _ c.in_ok-grammar.ensures.known max_finite_size in
    let v = rw c.closure.ensures.same at c.in_ok-answer.ensures.over in
    ((λ h. u.0 (v.0 h)), (λ h. v.1 (u.1 h)))

pub returns-clause-infinite : goal.returns-clause-infinite
returns-clause-infinite g c =
    let u = type-unbounded c.args.self.now.library c.args.self.now.options (cost_of c.args.self.now.costs) (type_of c.args.ty.now) _ c.in_ok-grammar.ensures.known in
    let v = rw c.closure.ensures.same at c.in_ok-answer.ensures.infinite in
    ((λ h. u.0 (v.0 h)), (λ h. v.1 (u.1 h)))

pub returns-clause-walk : goal.returns-clause-walk
returns-clause-walk g c =
    type-walk c.args.self.now.library c.args.self.now.options (cost_of c.args.self.now.costs) (type_of c.args.ty.now) _ c.in_ok-grammar.ensures.known _
    (rw c.closure.ensures.same at c.in_ok-answer.ensures.walk)

pub returns-clause-silent : goal.returns-clause-silent
returns-clause-silent g c =
    silent-of c.args.self.now.library c.args.self.now.options (type_of c.args.ty.now) _ c.in_ok-grammar.ensures.known

pub returns-in-Some-clause-greatest : goal.returns-in-Some-clause-greatest
returns-in-Some-clause-greatest g c =
    let v = c.in-Some.ensures in
    let k : IsKnownOf c.args.self.now.library c.args.self.now.options (type_of c.args.ty.now) v.rows = record { goal = c.in_ok-goal.goal; is_goal = c.in_ok-goal.ensures.goal; narrow = c.in_ok-goal.ensures.narrow; known = v.known } in
    type-greatest c.args.self.now.library c.args.self.now.options (cost_of c.args.self.now.costs) (type_of c.args.ty.now) v.rows k _ v.sizes.greatest

pub returns-in-Some-clause-over : goal.returns-in-Some-clause-over
returns-in-Some-clause-over g c =
    let v = c.in-Some.ensures in
    let k : IsKnownOf c.args.self.now.library c.args.self.now.options (type_of c.args.ty.now) v.rows = record { goal = c.in_ok-goal.goal; is_goal = c.in_ok-goal.ensures.goal; narrow = c.in_ok-goal.ensures.narrow; known = v.known } in
    let u = type-over c.args.self.now.library c.args.self.now.options (cost_of c.args.self.now.costs) (type_of c.args.ty.now) v.rows k max_finite_size in
    let w = v.sizes.over in
    ((λ h. u.0 (w.0 h)), (λ h. w.1 (u.1 h)))

pub returns-in-Some-clause-infinite : goal.returns-in-Some-clause-infinite
returns-in-Some-clause-infinite g c =
    let v = c.in-Some.ensures in
    let k : IsKnownOf c.args.self.now.library c.args.self.now.options (type_of c.args.ty.now) v.rows = record { goal = c.in_ok-goal.goal; is_goal = c.in_ok-goal.ensures.goal; narrow = c.in_ok-goal.ensures.narrow; known = v.known } in
    let u = type-unbounded c.args.self.now.library c.args.self.now.options (cost_of c.args.self.now.costs) (type_of c.args.ty.now) v.rows k in
    let w = v.sizes.infinite in
    ((λ h. u.0 (w.0 h)), (λ h. w.1 (u.1 h)))

pub returns-in-Some-clause-walk : goal.returns-in-Some-clause-walk
returns-in-Some-clause-walk g c =
    let v = c.in-Some.ensures in
    let k : IsKnownOf c.args.self.now.library c.args.self.now.options (type_of c.args.ty.now) v.rows = record { goal = c.in_ok-goal.goal; is_goal = c.in_ok-goal.ensures.goal; narrow = c.in_ok-goal.ensures.narrow; known = v.known } in
    type-walk c.args.self.now.library c.args.self.now.options (cost_of c.args.self.now.costs) (type_of c.args.ty.now) v.rows k _ v.sizes.walk

pub returns-in-Some-clause-silent : goal.returns-in-Some-clause-silent
returns-in-Some-clause-silent g c =
    known-silent c.args.self.now.library c.args.self.now.options (type_of c.args.ty.now) c.in_ok-goal.goal c.in_ok-goal.ensures.goal c.in_ok-goal.ensures.narrow c.in-Some.ensures.rows c.in-Some.ensures.known

pub keep_recent-requires : goal.keep_recent-requires
keep_recent-requires g c = rw c.closure.ensures.same (c.in_ok-grammar.ensures.known.goal, c.in_ok-grammar.ensures.known.known)

pub keep_sizes-requires : goal.keep_sizes-requires
keep_sizes-requires g c =
    rw (c.keep_recent.ensures.same, c.closure.ensures.same)
    (sizes-on c.args.self.now.library c.args.self.now.options (cost_of c.args.self.now.costs) (type_of c.args.ty.now) c.in_ok-goal.goal c.in_ok-goal.ensures.goal _ c.in_ok-grammar.ensures.known c.in_ok-answer.answer (rw c.closure.ensures.same at c.in_ok-answer.ensures))
