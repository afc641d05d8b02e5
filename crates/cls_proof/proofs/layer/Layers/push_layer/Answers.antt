use Rattle.std.proofs.Common.{◌≡◌, ◌++◌, ◌∷◌, [], List, ℕ, length, sym, ap, subst, ◌∙◌, arith, length-append}
use Rattle.cls_proof.specs.Parts.{AreStarts, itself, lists_of}
use Rattle.cls_proof.proofs.PartLaws.{starts-push, length-lists, lists-push}
use Rattle.cls_proof.proofs.layer.Layers.push_layer.Goals as goal

pub invariant_of-self-2 : goal.invariant_of-self-2
invariant_of-self-2 c =
    let i = c.self.inside in
    let e : c.in-Ok.start ≡ length i.sets = omega arith in
    subst (λ (s : List ℕ). AreStarts itself s (length i.sets)) (sym c.in_ok-push.ensures.items) (starts-push itself i.starts.items c.in-Ok.start (length i.sets) c.self.invariant e)

pub returns-clause-ok : goal.returns-clause-ok
returns-clause-ok c =
    let i = c.self.inside in
    let e : c.in-Ok.start ≡ length i.sets = omega arith in
    ap (λ (s : List ℕ). lists_of s i.sets) c.in_ok-push.ensures.items
    ∙ (lists-push i.starts.items i.sets c.in-Ok.start c.self.invariant e
    ∙ ap (λ (layers : List (List (List ℕ))). layers ++ [] ∷ []) c.self.view_is)

pub returns-clause-count : goal.returns-clause-count
returns-clause-count c =
    let i = c.self.inside in
    omega (arith, ap length c.self.view_is, length-lists i.starts.items i.sets, length-lists c.push.new.self.items i.sets, ap length c.in_ok-push.ensures.items, length-append i.starts.items (c.in-Ok.start ∷ []))
