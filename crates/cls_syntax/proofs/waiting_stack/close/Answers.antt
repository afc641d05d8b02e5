-- Each entry up to an open parenthesis is joined with what was read behind it.
use Rattle.std.proofs.Common.{[], ◌∷◌, ◌++◌, ap, ◌∙◌}
use Rattle.cls_syntax.specs.declared.waiting_stack.Waiting.{Waiting}
use Rattle.cls_syntax.proofs.Building.{product_joined, meet_joined, source_joined, closed_at}
use Rattle.cls_syntax.proofs.waiting_stack.close.Goals as goal

pub returns-in-Open : goal.returns-in-Open
returns-in-Open g c = λ o l h.
    let taken = c.in-Some.ensures.items ∙ ap (λ (w : Waiting g.row.T.Denot). c.pop.new.self.items ++ w ∷ []) c.in-Open.is in
    closed_at g.T.Tree.tree c.loop-waiting.stack.items c.pop.new.self.items c.in-Open.name o (g.T.Tree.tree c.loop-waiting.whole) _ _ taken c.in_ok-named-in-Open.ensures (c.loop-waiting.invariant o l h)

pub loop-waiting-preserved-in_ok-whole-in-Product : goal.loop-waiting-preserved-in_ok-whole-in-Product
loop-waiting-preserved-in_ok-whole-in-Product g c = λ o k h.
    let taken = c.in-Some.ensures.items ∙ ap (λ (w : Waiting g.row.T.Denot). c.pop.new.self.items ++ w ∷ []) c.in-Product.is in
    product_joined g.T.Tree.tree c.loop-waiting.stack.items c.pop.new.self.items c.in-Product.left o (g.T.Tree.tree c.loop-waiting.whole) _ _ taken c.in_ok-whole-in-Product.ensures (c.loop-waiting.invariant o k h)

pub loop-waiting-preserved-in_ok-whole-in-Meet : goal.loop-waiting-preserved-in_ok-whole-in-Meet
loop-waiting-preserved-in_ok-whole-in-Meet g c = λ o k h.
    let taken = c.in-Some.ensures.items ∙ ap (λ (w : Waiting g.row.T.Denot). c.pop.new.self.items ++ w ∷ []) c.in-Meet.is in
    meet_joined g.T.Tree.tree c.loop-waiting.stack.items c.pop.new.self.items c.in-Meet.left o (g.T.Tree.tree c.loop-waiting.whole) _ _ taken c.in_ok-whole-in-Meet.ensures (c.loop-waiting.invariant o k h)

pub loop-waiting-preserved : goal.loop-waiting-preserved
loop-waiting-preserved g c = λ o k h.
    let taken = c.in-Some.ensures.items ∙ ap (λ (w : Waiting g.row.T.Denot). c.pop.new.self.items ++ w ∷ []) c.in-Source.is in
    source_joined g.T.Tree.tree c.loop-waiting.stack.items c.pop.new.self.items c.in-Source.source o (g.T.Tree.tree c.loop-waiting.whole) _ _ taken c.in_ok-whole-in-Source.ensures (c.loop-waiting.invariant o k h)
