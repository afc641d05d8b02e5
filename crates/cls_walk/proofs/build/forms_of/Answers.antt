use Rattle.std.proofs.Common.{◌≡◌, [], ◌∷◌, ◌++◌, arith, ap, length, map, ◌∙◌}
use Rattle.std.proofs.lemmas.List.{map-append, length_push}
use Rattle.cls_walk.specs.Forms.{AreForms}
use Rattle.cls_walk.proofs.Building.{each-push, each-whole, forms-here, forms-past, same-length}
use Rattle.cls_walk.proofs.build.forms_of.Goals as goal

pub loop-node-preserved : goal.loop-node-preserved
loop-node-preserved g c =
    let book = g.B.RuleBook.book c.args.book.now in
    let old = map (λ v. v.items) c.loop-node.nodes.items in
    let new = map (λ v. v.items) c.push.new.self.items in
    let x = c.in_ok-forms.forms.items in
    let i = c.loop-node.node in
    let long : length old ≡ i = same-length (λ v. v.items) c.loop-node.nodes.items ∙ c.loop-node.invariant.long in
    let p : new ≡ old ++ x ∷ [] = ap (λ vs. map (λ v. v.items) vs) c.in_ok-push.ensures.items ∙ map-append (λ v. v.items) c.loop-node.nodes.items (c.in_ok-forms.forms ∷ []) in
    record {
      forms = λ most e. each-push (AreForms book most) old new x i p long (c.loop-node.invariant.forms most e) (forms-here book i c.rules-rules.result.now c.in-Some.repeat c.args.size most x c.rules-rules.ensures.rules c.in_ok-forms.ensures e c.in-Some.ensures);
      long = omega (arith, ap length c.in_ok-push.ensures.items, length_push c.loop-node.nodes.items c.in_ok-forms.forms, c.loop-node.invariant.long);
    }

pub returns : goal.returns
returns g c =
    let book = g.B.RuleBook.book c.args.book.now in
    λ n most e. each-whole (AreForms book most) (map (λ v. v.items) c.loop-node.nodes.items) c.loop-node.node (same-length (λ v. v.items) c.loop-node.nodes.items ∙ c.loop-node.invariant.long) (λ k l. forms-past book most k (omega (arith, l, c.loop-node-test.false, c.loop-node.auto.node-end, c.count-node-end.ensures.count))) (c.loop-node.invariant.forms most e) n
