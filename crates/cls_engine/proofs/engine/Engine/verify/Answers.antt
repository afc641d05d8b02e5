use Rattle.cls_base.specs.Ty.{type_of}
use Rattle.cls_path.specs.Paths.{listed, type_of_paths}
use Rattle.cls_proof.specs.Seen.{certificate_of}
use Rattle.cls_engine.proofs.Languages.{goal_same}
use Rattle.cls_engine.proofs.Verdicts.{accepts, refuses}
use Rattle.cls_engine.proofs.engine.Engine.verify.Goals as goal

pub returns-in-Ok-clause-verdict : goal.returns-in-Ok-clause-verdict
returns-in-Ok-clause-verdict c =
    let same = goal_same c.args.self.now.library (type_of c.args.ty.now) c.in_ok-goal.goal c.in_ok-goal.ensures in
    accepts c.args.self.now.library (type_of_paths (listed c.in_ok-goal.goal)) (type_of c.args.ty.now) same.1 same.0 (certificate_of c.args.certificate.now)
    (rw c.library.ensures at c.in-Ok.ensures.accepted)

pub returns-in-Err-Refused-clause-verdict : goal.returns-in-Err-Refused-clause-verdict
returns-in-Err-Refused-clause-verdict c =
    let same = goal_same c.args.self.now.library (type_of c.args.ty.now) c.in_ok-goal.goal c.in_ok-goal.ensures in
    refuses c.args.self.now.library (type_of_paths (listed c.in_ok-goal.goal)) (type_of c.args.ty.now) same.1 same.0 (certificate_of c.args.certificate.now) (c.in-Err-Refused.row, c.in-Err-Refused.reason)
    (let h = rw c.in-Err-Refused.field-0-is at c.in-Err-Refused.ensures.refused in rw c.library.ensures at h)

pub check-requires-clause-suits : goal.check-requires-clause-suits
check-requires-clause-suits c = rw c.library.ensures c.in_ok-goal.ensures.normal.suits
