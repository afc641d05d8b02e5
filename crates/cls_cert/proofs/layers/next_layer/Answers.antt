use Rattle.std.proofs.Common.{ℕ, ◌+◌, ◌∙◌, List, [], ◌∷◌, ap, take, subst, IfSome}
use Rattle.cls_base.specs.Limits.{max_covers}
use Rattle.cls_cover.specs.Forced.{IsForced}
use Rattle.cls_cert.proofs.Forcing.{forced_front, only_cover}
use Rattle.cls_cert.proofs.layers.next_layer.Goals as goal

pub returns-in_ok-sets-in-Some-clause-covers : goal.returns-in_ok-sets-in-Some-clause-covers
returns-in_ok-sets-in-Some-clause-covers c =
    let front = take (c.args.front + 1) c.args.families.now in
    let found : IfSome c.in_ok-forced.forced (λ cover. IsForced front cover) =
    forced_front (λ (c : List ℕ). c) c.args.families.now c.args.front c.as_slice.result.now _ c.args.cover c.in_ok-forced.forced c.requires.more
    (c.as_slice.ensures ∙ c.index-families-front.is) c.requires.forced c.in_ok-forced.ensures in
    let forced : IsForced front c.in-Some.only = subst (λ o. IfSome o (λ cover. IsForced front cover)) c.in-Some.is found in
    only_cover front c.in_ok-sets-in-Some.sets c.in-Some.only forced (c.in_ok-sets-in-Some.ensures ∙ ap (λ (s : List ℕ). s ∷ []) c.as_slice-in-Some.ensures)

pub returns-in_ok-sets-in-Some-clause-forced : goal.returns-in_ok-sets-in-Some-clause-forced
returns-in_ok-sets-in-Some-clause-forced c =
    let front = take (c.args.front + 1) c.args.families.now in
    let found : IfSome c.in_ok-forced.forced (λ cover. IsForced front cover) =
    forced_front (λ (c : List ℕ). c) c.args.families.now c.args.front c.as_slice.result.now _ c.args.cover c.in_ok-forced.forced c.requires.more
    (c.as_slice.ensures ∙ c.index-families-front.is) c.requires.forced c.in_ok-forced.ensures in
    subst (λ o. IfSome o (λ cover. IsForced front cover)) c.in-Some.is found

pub covers-requires : goal.covers-requires
covers-requires c = (c.args.families.now, max_covers, c.args.front + 1, c.in_ok-covers-in-None.ensures)

pub returns-in_ok-sets-in-None-clause-covers : goal.returns-in_ok-sets-in-None-clause-covers
returns-in_ok-sets-in-None-clause-covers c = c.in_ok-sets-in-None.ensures c.args.families.now max_covers (c.args.front + 1) c.in_ok-covers-in-None.ensures

pub returns-in_ok-sets-in-None-clause-grown : goal.returns-in_ok-sets-in-None-clause-grown
returns-in_ok-sets-in-None-clause-grown c = c.in_ok-covers-in-None.ensures
