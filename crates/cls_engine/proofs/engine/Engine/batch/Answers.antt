use Rattle.std.proofs.Common.{map, arith, rules}
use Rattle.std.proofs.lemmas.List.{length-map}
use Rattle.std.proofs.lemmas.Slice.Zip.{AllZip-long}
use Rattle.cls_base.specs.Ty.{type_of}
use Rattle.cls_engine.specs.Batching.{IsFitGoalOf}
use Rattle.cls_engine.proofs.BatchFaults.{are-asked, batch-silent, by-deciding, by-oversized, verdicts}
use Rattle.cls_engine.proofs.engine.Engine.batch.Goals as goal

pub decide_together-requires-clause-count : goal.decide_together-requires-clause-count
decide_together-requires-clause-count g c =
    let long = AllZip-long (IsFitGoalOf c.args.self.now.library) (map type_of c.args.types.now) c.in_ok-goals.goals.items c.in_ok-goals.ensures.goals in
    omega (arith, long, length-map c.args.types.now type_of)

pub decide_together-requires-clause-asked : goal.decide_together-requires-clause-asked
decide_together-requires-clause-asked g c =
    let many = length-map c.args.types.now type_of in
    λ κs below. rw c.index.ensures
    (are-asked c.args.self.now.library (map type_of c.args.types.now) c.in_ok-goals.goals.items c.in_ok-goals.ensures.goals
    (omega (arith, c.requires.some, many)) (omega (arith, c.requires.few, many)))

pub returns-in_err-goals-clause-fault : goal.returns-in_err-goals-clause-fault
returns-in_err-goals-clause-fault g c =
    let h = by-oversized c.args.self.now.library c.args.self.now.options (map type_of c.args.types.now) c.in_err-goals.field-0.0 c.in_err-goals.ensures.size in
    search (rules, h)

pub returns-in_err-says-clause-fault : goal.returns-in_err-says-clause-fault
returns-in_err-says-clause-fault g c =
    let h = by-deciding c.args.self.now.library c.args.self.now.options (map type_of c.args.types.now) c.in_ok-goals.goals.items c.in_ok-goals.ensures.goals
    c.in_err-says.field-0.0 (rw c.index.ensures at c.in_err-says.ensures.fault) in
    search (rules, h)

pub returns-clause-exact : goal.returns-clause-exact
returns-clause-exact g c =
    verdicts c.args.self.now.library (map type_of c.args.types.now) c.in_ok-goals.goals.items c.in_ok-says.says.items c.in_ok-goals.ensures.goals
    (rw c.index.ensures at c.in_ok-says.ensures.decided.says_each)

pub returns-clause-silent : goal.returns-clause-silent
returns-clause-silent g c =
    batch-silent c.args.self.now.library c.args.self.now.options (map type_of c.args.types.now) c.in_ok-goals.goals.items c.in_ok-goals.ensures.goals c.in_ok-says.says.items
    (rw c.index.ensures at c.in_ok-says.ensures.decided)
