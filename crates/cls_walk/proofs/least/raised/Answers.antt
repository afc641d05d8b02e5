use Rattle.std.proofs.Common.{◌≡◌, List, ℕ, arith, ap, sym, subst, length, ◌∙◌}
use Rattle.cls_term.specs.Costs.{cost_of}
use Rattle.cls_walk.specs.Filled.{AreLeast}
use Rattle.cls_walk.proofs.Building.{same-length}
use Rattle.cls_walk.proofs.Rounds.{round-sizes}
use Rattle.cls_walk.proofs.least.raised.Goals as goal

pub returns-clause-least : goal.returns-clause-least
returns-clause-least c =
    let forms = c.args.forms.now in
    let cost = cost_of c.args.costs.now in
    let P : List ℕ → Type 0 = λ xs. AreLeast forms cost xs in
    let d : c.loop-forms_of_node.forms_of_node-index ≡ length c.deref-forms_of_node-items.result.now = omega (arith, c.loop-forms_of_node-test.false, c.loop-forms_of_node.auto.forms_of_node-index-end) in
    let e : c.loop-forms_of_node.forms_of_node-index ≡ length forms = d ∙ ap (λ vs. length vs) c.deref-forms_of_node-items.ensures.value ∙ sym (same-length (λ v. v.items) c.forms.inside.nodes.items) ∙ ap (λ fs. length fs) c.forms.view_is in
    subst P (sym c.new.ensures) (round-sizes cost forms c.args.most c.args.least.now c.loop-forms_of_node.new.items (c.loop-forms_of_node.invariant.long ∙ e) (λ n l. c.loop-forms_of_node.invariant.least n (omega (arith, l, e))) c.requires.most c.requires.least)
