use Rattle.std.proofs.Common.{◌≡◌, ◌+◌, ◌<◌, ◌∷◌, [], length, set, get_or, ap, ◌∙◌, arith}
use Rattle.cls_grammar.specs.declared.waiting.Link.{Link}
use Rattle.cls_grammar.specs.WaitingLists.{lists_among}
use Rattle.cls_grammar.proofs.Waits.{lists-push, lists-length}
use Rattle.cls_grammar.proofs.waiting.WaitingLists.push.Goals as goal

pub returns : goal.returns
returns c =
    let links = c.self.inside.links.items in
    let ks = c.self.inside.among.items in
    let i = c.args.node in
    let q : Link = record { waiting = c.args.waiting; before = c.index-before.result.now } in
    let less : i < length ks = omega (arith, c.requires, ap length c.self.view_is, lists-length links ks) in
    let count : c.in-Ok.count ≡ length links + 1 = omega (arith, c.in-Ok.ensures) in
    (λ t. lists_among (c.in_ok-push.ensures.items t) (set ks i (count t)))
    ∙ (lists-push links ks i c.index-before.result.now q c.self.invariant.0 c.self.invariant.1 less c.index-before.ensures ∙ ap (λ ws. set ws i (c.args.waiting ∷ get_or ws i [])) c.self.view_is)
