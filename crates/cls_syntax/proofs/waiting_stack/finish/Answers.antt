-- Each entry is joined with what was read behind it. A parenthesis that is open leaves no tree.
use Rattle.std.proofs.Common.{[], ◌∷◌, ◌++◌, refl, ap, ◌∙◌}
use Rattle.cls_syntax.specs.declared.waiting_stack.Waiting.{Waiting}
use Rattle.cls_syntax.proofs.Building.{product_joined, meet_joined, source_joined, closed_at, ended_within}
use Rattle.cls_syntax.proofs.waiting_stack.finish.Goals as goal

pub returns-in-Open : goal.returns-in-Open
returns-in-Open g c = λ o l h.
    let taken = c.in-Some.ensures.items ∙ ap (λ (w : Waiting g.row.T.Denot). c.pop.new.self.items ++ w ∷ []) c.in-Open.is in
    let open_there = closed_at g.T.Tree.tree c.loop-waiting.stack.items c.pop.new.self.items c.in-Open.field-0 o (g.T.Tree.tree c.loop-waiting.read) _ _ taken refl (c.loop-waiting.invariant o l h) in
    ended_within o open_there.outer open_there.name open_there.level l (g.T.Tree.tree c.args.last) open_there.opened

pub loop-waiting-preserved-in_ok-read-in-Product : goal.loop-waiting-preserved-in_ok-read-in-Product
loop-waiting-preserved-in_ok-read-in-Product g c = λ o k h.
    let taken = c.in-Some.ensures.items ∙ ap (λ (w : Waiting g.row.T.Denot). c.pop.new.self.items ++ w ∷ []) c.in-Product.is in
    product_joined g.T.Tree.tree c.loop-waiting.stack.items c.pop.new.self.items c.in-Product.left o (g.T.Tree.tree c.loop-waiting.read) _ _ taken c.in_ok-read-in-Product.ensures (c.loop-waiting.invariant o k h)

pub loop-waiting-preserved-in_ok-read-in-Meet : goal.loop-waiting-preserved-in_ok-read-in-Meet
loop-waiting-preserved-in_ok-read-in-Meet g c = λ o k h.
    let taken = c.in-Some.ensures.items ∙ ap (λ (w : Waiting g.row.T.Denot). c.pop.new.self.items ++ w ∷ []) c.in-Meet.is in
    meet_joined g.T.Tree.tree c.loop-waiting.stack.items c.pop.new.self.items c.in-Meet.left o (g.T.Tree.tree c.loop-waiting.read) _ _ taken c.in_ok-read-in-Meet.ensures (c.loop-waiting.invariant o k h)

pub loop-waiting-preserved : goal.loop-waiting-preserved
loop-waiting-preserved g c = λ o k h.
    let taken = c.in-Some.ensures.items ∙ ap (λ (w : Waiting g.row.T.Denot). c.pop.new.self.items ++ w ∷ []) c.in-Source.is in
    source_joined g.T.Tree.tree c.loop-waiting.stack.items c.pop.new.self.items c.in-Source.source o (g.T.Tree.tree c.loop-waiting.read) _ _ taken c.in_ok-read-in-Source.ensures (c.loop-waiting.invariant o k h)
