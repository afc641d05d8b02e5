-- A product that waits is taken, and otherwise nothing.
use Rattle.std.proofs.Common.{◌≡◌, ◌-◌, true, false, List, ◌++◌, length, ap, sym, subst, ◌∙◌}
use Rattle.std.specs.Prelude.{Option, Some, slice_get}
use Rattle.std.specs.Option.{option_to_list}
use Rattle.cls_syntax.specs.SchemaReading.{Outer, Level}
use Rattle.cls_base.specs.Schemas.{product}
use Rattle.cls_syntax.specs.WaitingStacks.{is_product, Stands, IsFactor}
use Rattle.cls_syntax.specs.declared.waiting_stack.Waiting.{Waiting}
use Rattle.cls_syntax.proofs.Building.{factor_alone, factor_taken, popped_product, product_in, of_ok}
use Rattle.cls_syntax.proofs.waiting_stack.factor.Goals as goal

pub returns-then-not-ends_with_product : goal.returns-then-not-ends_with_product
returns-then-not-ends_with_product g c = λ o l h.
    let none = subst (λ (ws : List (Waiting g.row.T.Denot)). is_product (slice_get ws (length ws - 1)) ≡ false) c.deref.ensures.value (sym c.ends_with_product.ensures ∙ c.if-not-ends_with_product.true) in
    factor_alone g.T.Tree.tree c.args.stack.now.items o l (g.T.Tree.tree c.args.last) none h

pub unreachable-requires : goal.unreachable-requires
unreachable-requires g c =
    let one = subst (λ (ws : List (Waiting g.row.T.Denot)). is_product (slice_get ws (length ws - 1)) ≡ true) c.deref.ensures.value (sym c.ends_with_product.ensures ∙ c.if-not-ends_with_product.false) in
    let came = popped_product c.args.stack.now.items c.pop.result c.args.stack.now.len c.args.stack.now.ok.0 c.pop.ensures.value one in
    cc (came, ap (is_product {T = g.row.T.Denot}) c.in_default.is)

pub unreachable-requires-in_default-waiting : goal.unreachable-requires-in_default-waiting
unreachable-requires-in_default-waiting g c =
    let one = subst (λ (ws : List (Waiting g.row.T.Denot)). is_product (slice_get ws (length ws - 1)) ≡ true) c.deref.ensures.value (sym c.ends_with_product.ensures ∙ c.if-not-ends_with_product.false) in
    let came = popped_product c.args.stack.now.items c.pop.result c.args.stack.now.len c.args.stack.now.ok.0 c.pop.ensures.value one in
    product_in c.in-Some.waiting (sym (ap is_product c.in-Some.is) ∙ came) c.in_default-waiting.not-Product

pub returns : goal.returns
returns g c =
    let tree = g.T.Tree.tree in
    let t = tree c.args.last in
    let left = c.in-Product.left in
    let taken = c.pop.ensures.items ∙ ap (λ (r : Option (Waiting g.row.T.Denot)). c.pop.new.self.items ++ option_to_list r) (c.in-Some.is ∙ ap Some c.in-Product.is) in
    of_ok (λ (x : g.row.T.Denot). tree x ≡ product (tree left) t) (λ (x : g.row.T.Denot). (o : Outer) (l : Level) → Stands tree c.args.stack.now.items o l → IsFactor tree c.pop.new.self.items o l t (tree x)) c.product.result (λ x e o l h. factor_taken tree c.args.stack.now.items c.pop.new.self.items left o l t (tree x) taken e h) c.product.ensures
