-- Where a product waits it grows, and otherwise a product comes to wait.
use Rattle.std.proofs.Common.{◌≡◌, ◌-◌, true, false, List, length, ap, sym, subst, ◌∙◌, arith}
use Rattle.std.specs.Prelude.{slice_get}
use Rattle.cls_base.specs.Schemas.{product}
use Rattle.cls_syntax.specs.WaitingStacks.{is_product}
use Rattle.cls_syntax.specs.declared.waiting_stack.Waiting.{Waiting}
use Rattle.cls_syntax.proofs.Building.{product_pushed, product_grown, product_there}
use Rattle.cls_syntax.proofs.waiting_stack.put_product.Goals as goal

pub returns-then-not-ends_with_product : goal.returns-then-not-ends_with_product
returns-then-not-ends_with_product g c = λ o l h.
    let none = subst (λ (ws : List (Waiting g.row.T.Denot)). is_product (slice_get ws (length ws - 1)) ≡ false) c.deref.ensures.value (sym c.ends_with_product.ensures ∙ c.if-not-ends_with_product.true) in
    product_pushed g.T.Tree.tree c.args.stack.now.items c.push.new.self.items c.args.read o l c.in_ok-push.ensures.items none h

pub unreachable-requires : goal.unreachable-requires
unreachable-requires g c =
    let one = subst (λ (ws : List (Waiting g.row.T.Denot)). is_product (slice_get ws (length ws - 1)) ≡ true) c.deref.ensures.value (sym c.ends_with_product.ensures ∙ c.if-not-ends_with_product.false) in
    product_there c.args.stack.now.items (c.len-last.result - 1) c.index_mut.result.now (omega arith) one c.index_mut.ensures.value c.in_default.not-Product

pub returns : goal.returns
returns g c = λ o l h.
    let one = subst (λ (ws : List (Waiting g.row.T.Denot)). is_product (slice_get ws (length ws - 1)) ≡ true) c.deref.ensures.value (sym c.ends_with_product.ensures ∙ c.if-not-ends_with_product.false) in
    product_grown g.T.Tree.tree c.args.stack.now.items (c.len-last.result - 1) c.in-Product.left c.in_ok-left.field-0 c.index_mut.result.now (g.T.Tree.tree c.args.read) o l (omega arith) one (sym c.in-Product.is ∙ c.index_mut.ensures.value) (c.in_ok-left.ensures ∙ ap (λ (t : g.row.T.Denot). product (g.T.Tree.tree t) (g.T.Tree.tree c.args.read)) c.replace-begun.ensures.value) h
