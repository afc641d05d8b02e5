use Rattle.std.proofs.Common.{◌∷◌, [], List, ℕ, length, ap, ◌∙◌, arith}
use Rattle.std.proofs.lemmas.Result.{on_ok_weaker}
use Rattle.cls_proof.specs.Growing.{with_set}
use Rattle.cls_proof.specs.Parts.{itself, lists_of}
use Rattle.cls_proof.proofs.PartLaws.{starts-more, length-lists, lists-more}
use Rattle.cls_proof.proofs.layer.Layers.push_set.Goals as goal

pub invariant_of-self : goal.invariant_of-self
invariant_of-self c =
    let i = c.self.inside in
    starts-more itself i.starts.items (length i.sets) (length c.push.new.self) c.self.invariant c.push.ensures.count

pub returns-clause-ok : goal.returns-clause-ok
returns-clause-ok c =
    let i = c.self.inside in
    on_ok_weaker c.push.result (λ p.
    ap (λ (sets : List (List ℕ)). lists_of i.starts.items sets) p
    ∙ (lists-more i.starts.items i.sets (c.args.set.now ∷ []) c.self.invariant
    ∙ ap (λ (layers : List (List (List ℕ))). with_set c.args.set.now layers) c.self.view_is)) c.push.ensures.ok

pub returns-clause-count : goal.returns-clause-count
returns-clause-count c =
    let i = c.self.inside in
    omega (arith, ap length c.self.view_is, length-lists i.starts.items i.sets, length-lists i.starts.items c.push.new.self)
