use Rattle.std.proofs.Common.{List, [], ◌∷◌, ◌++◌, ap, ◌∙◌, map}
use Rattle.cls_base.specs.declared.ty.Name.{Name}
use Rattle.cls_base.proofs.Lists.{map_last}
use Rattle.cls_taxon.specs.PairGraphs.{pair_of}
use Rattle.cls_repo.specs.Written.{draft_of}
use Rattle.cls_repo.proofs.Putting.{pair_put}
use Rattle.cls_repo.proofs.draft.Draft.put_pair.Goals as goal

pub returns-clause-put : goal.returns-clause-put
returns-clause-put c =
    let old = c.args.self.now in
    let pair = c.in_ok-pair.pair in
    pair_put (draft_of old) c.number_both.new.names c.args.lower.now c.args.upper.now pair.0.0 pair.1.0 (map pair_of c.push_reserved.new.self.items)
    c.in_ok-pair.ensures.table c.in_ok-pair.ensures.first c.in_ok-pair.ensures.second
    (ap (map pair_of) (c.push_reserved.ensures.items ∙ ap (λ (ps : List (Name × Name)). ps ++ pair ∷ []) c.in_ok-reserve.ensures.items) ∙ map_last pair_of old.pairs.items pair)
