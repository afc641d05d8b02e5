-- An intersection that waits is taken, and otherwise nothing but a product.
use Rattle.std.proofs.Common.{◌≡◌, ◌-◌, true, false, List, ◌++◌, length, ap, sym, subst, ◌∙◌}
use Rattle.std.specs.Prelude.{Option, Some, slice_get}
use Rattle.std.specs.Option.{option_to_list}
use Rattle.cls_base.specs.Schemas.{meet}
use Rattle.cls_syntax.specs.SchemaReading.{Outer, Level}
use Rattle.cls_syntax.specs.WaitingStacks.{is_meet, Stands, IsSummand}
use Rattle.cls_syntax.specs.declared.waiting_stack.Waiting.{Waiting}
use Rattle.cls_syntax.proofs.Building.{summand_alone, summand_taken, popped_meet, meet_in, of_ok}
use Rattle.cls_syntax.proofs.waiting_stack.summand.Goals as goal

pub returns-then-not-ends_with_meet : goal.returns-then-not-ends_with_meet
returns-then-not-ends_with_meet g c = λ o l h.
    let none = subst (λ (ws : List (Waiting g.row.T.Denot)). is_meet (slice_get ws (length ws - 1)) ≡ false) c.deref.ensures.value (sym c.ends_with_meet.ensures ∙ c.if-not-ends_with_meet.true) in
    summand_alone g.T.Tree.tree c.factor.new.stack.items o l (g.T.Tree.tree c.args.last) (g.T.Tree.tree c.in_ok-product.product) none (c.in_ok-product.ensures o l h)

pub unreachable-requires : goal.unreachable-requires
unreachable-requires g c =
    let one = subst (λ (ws : List (Waiting g.row.T.Denot)). is_meet (slice_get ws (length ws - 1)) ≡ true) c.deref.ensures.value (sym c.ends_with_meet.ensures ∙ c.if-not-ends_with_meet.false) in
    let came = popped_meet c.factor.new.stack.items c.pop.result c.factor.new.stack.len c.factor.new.stack.ok.0 c.pop.ensures.value one in
    cc (came, ap (is_meet {T = g.row.T.Denot}) c.in_default.is)

pub unreachable-requires-in_default-waiting : goal.unreachable-requires-in_default-waiting
unreachable-requires-in_default-waiting g c =
    let one = subst (λ (ws : List (Waiting g.row.T.Denot)). is_meet (slice_get ws (length ws - 1)) ≡ true) c.deref.ensures.value (sym c.ends_with_meet.ensures ∙ c.if-not-ends_with_meet.false) in
    let came = popped_meet c.factor.new.stack.items c.pop.result c.factor.new.stack.len c.factor.new.stack.ok.0 c.pop.ensures.value one in
    meet_in c.in-Some.waiting (sym (ap is_meet c.in-Some.is) ∙ came) c.in_default-waiting.not-Meet

pub returns : goal.returns
returns g c =
    let tree = g.T.Tree.tree in
    let t = tree c.args.last in
    let product = tree c.in_ok-product.product in
    let left = c.in-Meet.left in
    let taken = c.pop.ensures.items ∙ ap (λ (r : Option (Waiting g.row.T.Denot)). c.pop.new.self.items ++ option_to_list r) (c.in-Some.is ∙ ap Some c.in-Meet.is) in
    of_ok (λ (x : g.row.T.Denot). tree x ≡ meet (tree left) product) (λ (x : g.row.T.Denot). (o : Outer) (l : Level) → Stands tree c.args.stack.now.items o l → IsSummand tree c.pop.new.self.items o l t (tree x)) c.meet.result (λ x e o l h. summand_taken tree c.factor.new.stack.items c.pop.new.self.items left o l t product (tree x) taken e (c.in_ok-product.ensures o l h)) c.meet.ensures
