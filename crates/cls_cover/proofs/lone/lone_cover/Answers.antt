use Rattle.std.proofs.Common.{ℕ, ◌≡◌, ◌∙◌, ◌∷◌, ◌++◌, [], List, ap, sym, subst, take, get_or}
use Rattle.std.specs.Prelude.{map}
use Rattle.std.proofs.lemmas.List.{take_more}
use Rattle.cls_base.proofs.Lists.{take_whole}
use Rattle.cls_cover.specs.Covers.{AreCovers}
use Rattle.cls_cover.specs.Forced.{IsForced}
use Rattle.cls_cover.specs.Growing.{single}
use Rattle.cls_cover.specs.Sets.{members}
use Rattle.cls_cover.proofs.LoneCovers.{lone_none, lone_set, lone_more, lone_covers, lone_within}
use Rattle.cls_cover.proofs.lone.lone_cover.Goals as goal

pub loop-position-init : goal.loop-position-init
loop-position-init c = lone_none _ c.clear.ensures.items

pub loop-position-preserved : goal.loop-position-preserved
loop-position-preserved c =
    let xs = c.args.positions.now in
    let i = c.loop-position.position-index in
    rw (take_more xs i 0 c.loop-position-test.true)
    (lone_more (take i xs) (get_or xs i 0) c.loop-position.cover.items c.put.new.positions.items c.loop-position.invariant
    c.in_ok-put.ensures.ascending c.in_ok-put.ensures.members)

pub put-requires : goal.put-requires
put-requires c = c.loop-position.invariant.ascending

pub returns-in-Some-clause-covers : goal.returns-in-Some-clause-covers
returns-in-Some-clause-covers c =
    let xs = c.args.positions.now in
    let set = c.in-Some.set in
    let e : c.put_members.new.list.items ≡ members set = c.in_ok-put_members.ensures ∙ ap (λ (list : List ℕ). list ++ members set) c.clear.ensures.items in
    subst (λ (s : List ℕ). AreCovers (map single xs) (s ∷ [])) (sym e) (lone_covers xs (members set) (lone_set xs set c.in-Some.ensures))

pub returns-in-Some-clause-within : goal.returns-in-Some-clause-within
returns-in-Some-clause-within c =
    lone_within c.args.positions.now (members c.in-Some.set) (lone_set c.args.positions.now c.in-Some.set c.in-Some.ensures)

pub returns-clause-covers : goal.returns-clause-covers
returns-clause-covers c =
    let xs = c.args.positions.now in
    let cover = c.loop-position.cover.items in
    let h : IsForced (map single xs) cover =
    subst (λ (ys : List ℕ). IsForced (map single ys) cover) (take_whole xs c.loop-position.position-index c.loop-position-test.false) c.loop-position.invariant in
    lone_covers xs cover h

pub returns-clause-within : goal.returns-clause-within
returns-clause-within c =
    let xs = c.args.positions.now in
    let cover = c.loop-position.cover.items in
    let h : IsForced (map single xs) cover =
    subst (λ (ys : List ℕ). IsForced (map single ys) cover) (take_whole xs c.loop-position.position-index c.loop-position-test.false) c.loop-position.invariant in
    lone_within xs cover h
