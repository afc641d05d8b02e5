use Rattle.std.proofs.Common.{◌≡◌, map, sym, ap, ◌∙◌}
use Rattle.std.specs.List.{concat}
use Rattle.cls_base.specs.Arguments.{arguments_in, map_rule}
use Rattle.cls_base.specs.Columns.{rules_with}
use Rattle.cls_base.proofs.Columns.{arguments-concat, rules-map}
use Rattle.cls_base.proofs.node_rules.NodeRules.with_arguments.Goals as goal

pub returns : goal.returns
returns c f e =
    let hs = c.self.inside.heads.items in
    let lists = c.self.inside.args in
    let p : c.in_ok-heads.heads.items ≡ hs = c.in_ok-heads.ensures.items ∙ c.as_slice.ensures.value in
    let q : arguments_in c.args.self.now ≡ concat lists = ap arguments_in (sym c.self.view_is) ∙ sym (arguments-concat hs lists c.self.invariant) in
    let m : c.in_ok-args.args ≡ map (map f) lists = c.in_ok-args.ensures.mapped f (e ∙ ap (map f) q) in
    (λ i. rules_with (p i) (m i)) ∙ (rules-map f hs lists c.self.invariant ∙ ap (map (map_rule f)) c.self.view_is)
