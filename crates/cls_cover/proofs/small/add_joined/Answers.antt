use Rattle.std.proofs.Common.{ℕ, List, ◌≡◌, ◌∙◌, map, take, get_or, ◌∷◌, [], ◌+◌, Vec, Global, sym, subst, ap, refl}
use Rattle.std.proofs.lemmas.List.{map-append}
use Rattle.cls_base.proofs.Lists.{take_whole}
use Rattle.cls_cover.specs.Members.{Member}
use Rattle.cls_cover.specs.Rows.{family_at}
use Rattle.cls_cover.specs.Sets.{members}
use Rattle.cls_cover.specs.Choosing.{IsGivenWith}
use Rattle.cls_cover.proofs.Lists.{get_any, get_member}
use Rattle.cls_cover.proofs.Choosing.{with_none, place_no, place_yes, with_all}
use Rattle.cls_cover.proofs.small.add_joined.Goals as goal
use Rattle.cls_cover.proofs.small.add_joined.Goals.{in-Some+in_ok-push, in_default}

pub loop-x-init : goal.loop-x-init
loop-x-init c = let b = c.args.begun.now in with_none b.families.now b.count c.requires.begun.more (members c.args.cover) (map members c.args.list.now.items) c.requires.free

pub joined-requires-clause-here : goal.joined-requires-clause-here
joined-requires-clause-here c =
    let b = c.args.begun.now in
    let items = c.as_slice-x-items.result.now in
    let e = c.as_slice-x-items.ensures ∙ get_any b.families.now b.count c.index-begun-begun.result [] c.requires.begun.more in
    subst (λ (g : List ℕ). Member g (get_or items c.loop-x.x-index 0)) e (get_member items c.loop-x.x-index 0 c.loop-x-test.true)

pub loop-x-preserved : goal.loop-x-preserved
loop-x-preserved c =
    let b = c.args.begun.now in
    let items = c.as_slice-x-items.result.now in
    let i = c.loop-x.x-index in
    let next = family_at b.families.now b.count in
    let e : items ≡ next = c.as_slice-x-items.ensures ∙ get_any b.families.now b.count c.index-begun-begun.result [] c.requires.begun.more in
    let olds = map members c.args.list.now.items in
    let news = map members c.loop-x.list.items in
    elim c.match-joined.branch [
      | in-Some+in_ok-push w ↦
          subst (λ (l : List ℕ). IsGivenWith b.families.now b.count (members c.args.cover) olds (take (i + 1) next) (map members l)) (sym (ap (λ (v : Vec ℕ Global). v.items) w.list-is ∙ w.in_ok-push.ensures.items))
          (rw (map-append members c.loop-x.list.items (w.in-Some.larger ∷ []))
          (place_yes b.families.now b.count c.requires.begun.more (members c.args.cover) olds c.requires.free c.requires.missed (take i next) news c.loop-x.invariant items e c.requires.differ i c.loop-x-test.true refl
          (members w.in-Some.larger) w.in-Some.ensures.put w.in-Some.ensures.minimal))
      | in_default w ↦
          subst (λ (l : List ℕ). IsGivenWith b.families.now b.count (members c.args.cover) olds (take (i + 1) next) (map members l)) (sym (ap (λ (v : Vec ℕ Global). v.items) w.list-is))
          (place_no b.families.now b.count c.requires.begun.more (members c.args.cover) olds c.requires.free c.requires.missed (take i next) news c.loop-x.invariant items e c.requires.differ i c.loop-x-test.true refl
          (c.joined.ensures.none w.in_default.is))
    ]

pub returns : goal.returns
returns c =
    let b = c.args.begun.now in
    let items = c.as_slice-x-items.result.now in
    let e = c.as_slice-x-items.ensures ∙ get_any b.families.now b.count c.index-begun-begun.result [] c.requires.begun.more in
    with_all b.families.now b.count c.requires.begun.more (members c.args.cover) (map members c.args.list.now.items) c.requires.free c.requires.missed
    (take c.loop-x.x-index (family_at b.families.now b.count)) (map members c.loop-x.list.items) c.loop-x.invariant
    (subst (λ (g : List ℕ). take c.loop-x.x-index g ≡ g) e (take_whole items c.loop-x.x-index c.loop-x-test.false))
