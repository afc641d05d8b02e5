use Rattle.std.proofs.Common.{refl}
use Rattle.cls_repo.specs.Drafts.{Component}
use Rattle.cls_repo.specs.Written.{draft_of}
use Rattle.cls_repo.proofs.Putting.{component_changed}
use Rattle.cls_repo.proofs.draft.Draft.set_template.Goals as goal

pub returns : goal.returns
returns c x is =
    let was = c.index_mut-component.result.now in
    let all = component_changed c.args.self.now c.args.component.0 x (λ (k : Component). record k { template = c.args.template }) was (record was { template = c.args.template }) c.requires is c.index_mut-component.ensures.value refl in
    λ i. record (draft_of c.args.self.now) { components = all i }
