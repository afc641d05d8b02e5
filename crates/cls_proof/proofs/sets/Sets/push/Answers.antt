use Rattle.std.proofs.Common.{◌≡◌, ◌++◌, ◌∷◌, [], List, ℕ, length, sym, ap, subst, ◌∙◌, arith, length-append}
use Rattle.std.proofs.lemmas.Result.{on_ok_weaker}
use Rattle.cls_proof.specs.Parts.{AreStarts, itself, lists_of}
use Rattle.cls_proof.proofs.PartLaws.{starts-push, starts-more, length-lists, list-added}
use Rattle.cls_proof.proofs.sets.Sets.push.Goals as goal

pub invariant_of-self-2 : goal.invariant_of-self-2
invariant_of-self-2 c =
    let starts = c.self.inside.starts.items in
    let n = length c.self.inside.positions.items in
    let e : c.in-Ok.start ≡ n = omega arith in
    subst (λ (s : List ℕ). AreStarts itself s (length c.push_all.new.column.items)) (sym c.in_ok-push.ensures.items)
    (starts-more itself (starts ++ c.in-Ok.start ∷ []) n (length c.push_all.new.column.items)
    (starts-push itself starts c.in-Ok.start n c.self.invariant e) c.push_all.ensures.count)

pub returns-clause-ok : goal.returns-clause-ok
returns-clause-ok c =
    let starts = c.self.inside.starts.items in
    let positions = c.self.inside.positions.items in
    let e : c.in-Ok.start ≡ length positions = omega arith in
    on_ok_weaker c.push_all.result (λ p.
    (λ j. lists_of (c.in_ok-push.ensures.items j) (p j))
    ∙ (list-added starts positions c.args.set.now c.in-Ok.start c.self.invariant e
    ∙ ap (λ (sets : List (List ℕ)). sets ++ c.args.set.now ∷ []) c.self.view_is)) c.push_all.ensures.ok

pub returns-clause-count : goal.returns-clause-count
returns-clause-count c =
    let starts = c.self.inside.starts.items in
    omega (arith, ap length c.self.view_is, length-lists starts c.self.inside.positions.items, length-lists c.push.new.self.items c.push_all.new.column.items, ap length c.in_ok-push.ensures.items, length-append starts (c.in-Ok.start ∷ []))
