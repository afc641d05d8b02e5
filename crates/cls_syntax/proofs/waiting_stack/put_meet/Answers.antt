-- Where an intersection waits it grows, and otherwise an intersection comes to wait.
use Rattle.std.proofs.Common.{◌≡◌, ◌-◌, true, false, List, length, ap, sym, subst, ◌∙◌, arith}
use Rattle.std.specs.Prelude.{slice_get}
use Rattle.cls_base.specs.Schemas.{meet}
use Rattle.cls_syntax.specs.WaitingStacks.{is_meet}
use Rattle.cls_syntax.specs.declared.waiting_stack.Waiting.{Waiting}
use Rattle.cls_syntax.proofs.Building.{meet_pushed, meet_grown, meet_there}
use Rattle.cls_syntax.proofs.waiting_stack.put_meet.Goals as goal

pub returns-then-not-ends_with_meet : goal.returns-then-not-ends_with_meet
returns-then-not-ends_with_meet g c = λ o l h.
    let none = subst (λ (ws : List (Waiting g.row.T.Denot)). is_meet (slice_get ws (length ws - 1)) ≡ false) c.deref.ensures.value (sym c.ends_with_meet.ensures ∙ c.if-not-ends_with_meet.true) in
    meet_pushed g.T.Tree.tree c.factor.new.stack.items c.push.new.self.items c.in_ok-product.product o l (g.T.Tree.tree c.args.read) c.in_ok-push.ensures.items none (c.in_ok-product.ensures o l h)

pub unreachable-requires : goal.unreachable-requires
unreachable-requires g c =
    let one = subst (λ (ws : List (Waiting g.row.T.Denot)). is_meet (slice_get ws (length ws - 1)) ≡ true) c.deref.ensures.value (sym c.ends_with_meet.ensures ∙ c.if-not-ends_with_meet.false) in
    meet_there c.factor.new.stack.items (c.len-last.result - 1) c.index_mut.result.now (omega arith) one c.index_mut.ensures.value c.in_default.not-Meet

pub returns : goal.returns
returns g c = λ o l h.
    let one = subst (λ (ws : List (Waiting g.row.T.Denot)). is_meet (slice_get ws (length ws - 1)) ≡ true) c.deref.ensures.value (sym c.ends_with_meet.ensures ∙ c.if-not-ends_with_meet.false) in
    let made = c.in_ok-left.ensures ∙ ap (λ (t : g.row.T.Denot). meet (g.T.Tree.tree t) (g.T.Tree.tree c.in_ok-product.product)) c.replace-begun.ensures.value in
    meet_grown g.T.Tree.tree c.factor.new.stack.items (c.len-last.result - 1) c.in-Meet.left c.in_ok-left.field-0 c.index_mut.result.now (g.T.Tree.tree c.in_ok-product.product) (g.T.Tree.tree c.args.read) o l (omega arith) one (sym c.in-Meet.is ∙ c.index_mut.ensures.value) made (c.in_ok-product.ensures o l h)
