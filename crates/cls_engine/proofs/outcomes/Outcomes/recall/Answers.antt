use Rattle.std.specs.Prelude.{Some, ◌≡◌, ◌⊎◌}
use Rattle.std.proofs.lemmas.Result.{IfErr-weaker}
use Rattle.cls_engine.specs.declared.fault.EngineFault.{EngineFault}
use Rattle.cls_engine.specs.declared.fault.EngineFault.TheVariants.{OutOfMemory}
use Rattle.cls_engine.specs.Outcomes.{fault_in, HasFault}
use Rattle.cls_engine.proofs.Deciding.{fault-at}
use Rattle.cls_engine.proofs.outcomes.Outcomes.recall.Goals as goal

pub returns : goal.returns
returns c =
    let kept = c.args.self.now.kept.items in
    let asked = c.args.goal.now in
    let found = c.index.result.now in
    IfErr-weaker c.fail.result (λ (f : EngineFault). (f ≡ OutOfMemory) ⊎ (fault_in found.outcome ≡ Some f)) (λ (f : EngineFault). (f ≡ OutOfMemory) ⊎ HasFault kept asked f)
    (λ f h. fault-at kept c.in-Some.place asked c.in-Some.ensures found c.index.ensures f h) c.fail.ensures
