use Rattle.std.proofs.Common.{ap, subst, sym, ◌∙◌, Some, slice_get, ◌≡◌, ◌<◌, length}
use Rattle.std.proofs.lemmas.Option.{slice_get-get_or}
use Rattle.cls_grammar.specs.Climbs.{State}
use Rattle.cls_grammar.proofs.Advances.{rank-there}
use Rattle.cls_grammar.proofs.ranking.Climb.has_rank.Goals as goal

pub returns : goal.returns
returns c =
    let ranks = c.self.inside.ranks.items in
    let within = subst (λ (s : State). c.args.node < length s.ranks) (sym c.self.view_is) c.requires in
    let there = slice_get-get_or ranks c.args.node c.index.result.now within ∙ ap Some (sym c.index.ensures) in
    rank-there c.args.self.now.ranks c.args.node c.index.result.now c.is_some.result (subst (λ (s : State). slice_get s.ranks c.args.node ≡ Some c.index.result.now) c.self.view_is there) c.is_some.ensures
