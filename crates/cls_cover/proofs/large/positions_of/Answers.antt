use Rattle.std.proofs.Common.{◌≡◌, ◌+◌, map, take, ap, sym, subst, ◌∙◌, List, ◌++◌, ◌∷◌, [], ℕ}
use Rattle.std.proofs.lemmas.List.{map-append, take_more}
use Rattle.cls_base.proofs.Lists.{take_whole}
use Rattle.cls_cover.specs.declared.cover.Cover.{Cover}
use Rattle.cls_cover.specs.Growing.{sets}
use Rattle.cls_cover.proofs.Steps.{sets-append}
use Rattle.cls_cover.proofs.large.positions_of.Goals as goal

pub loop-cover-preserved : goal.loop-cover-preserved
loop-cover-preserved c =
    let xs = c.args.list.now in
    let i = c.loop-cover.cover-index in
    let d : Cover = c.cover-item.result in
    let more : take (i + 1) xs ≡ take i xs ++ d ∷ [] = take_more xs i d c.loop-cover-test.true ∙ ap (λ (x : Cover). take i xs ++ x ∷ []) (sym c.cover-item.is) in
    let e : c.in_ok-from_slice.field-0.items ≡ d.positions.items = c.in_ok-from_slice.ensures.items ∙ c.as_slice.ensures in
    rw (c.in_ok-push.ensures.items, more, sets-append (take i xs) (d ∷ []))
    (map-append (λ v. v.items) c.loop-cover.lists.items (c.in_ok-from_slice.field-0 ∷ [])
    ∙ (ap (λ (s : List ℕ). map (λ v. v.items) c.loop-cover.lists.items ++ s ∷ []) e
    ∙ ap (λ (l : List (List ℕ)). l ++ d.positions.items ∷ []) c.loop-cover.invariant))

pub returns : goal.returns
returns c =
    subst (λ (l : List Cover). map (λ v. v.items) c.loop-cover.lists.items ≡ sets l) (take_whole c.args.list.now c.loop-cover.cover-index c.loop-cover-test.false) c.loop-cover.invariant
