use Rattle.std.proofs.Common.{ℕ, ◌+◌, length, get_or, take, ap, sym, ◌∙◌, subst, arith, List, ◌++◌, ◌∷◌, []}
use Rattle.cls_base.proofs.Lists.{take_whole}
use Rattle.cls_cover.specs.declared.cover.Cover.{Cover}
use Rattle.cls_cover.specs.Members.{Member, Ascending}
use Rattle.cls_cover.specs.Growing.{AddsJoined}
use Rattle.cls_cover.proofs.Lists.{get_member}
use Rattle.cls_cover.proofs.Grouping.{taken_member, fresh_at, one_more}
use Rattle.cls_cover.proofs.Joined.{row_here, row_wide, fresh, joined_more}
use Rattle.cls_cover.proofs.Steps.{partly_none}
use Rattle.cls_cover.proofs.grow.add_joined.Goals as goal

pub loop-x-init : goal.loop-x-init
loop-x-init c = partly_none c.args.front.now.families.now c.args.front.now.count c.requires.front.more c.args.cover.now.positions.items c.args.list.now.items c.requires.ready

pub bounds-front-x : goal.bounds-front-x
bounds-front-x c = row_here c.args.front.now c.args.cover.now c.requires.front c.requires.known c.requires.missed c.args.found.now c.requires.takeable (get_or c.args.found.now c.loop-x.x-index 0) (get_member c.args.found.now c.loop-x.x-index 0 c.loop-x-test.true)

pub join-requires-clause-ascending : goal.join-requires-clause-ascending
join-requires-clause-ascending c = subst (λ (l : List ℕ). Ascending l) (sym c.in_ok-larger.ensures.positions) c.requires.known.minimal.ascending

pub join-requires-clause-fresh : goal.join-requires-clause-fresh
join-requires-clause-fresh c = λ m.
    let x = get_or c.args.found.now c.loop-x.x-index 0 in
    fresh c.args.front.now c.args.cover.now c.requires.front c.requires.known c.requires.missed c.args.found.now c.requires.takeable x (get_member c.args.found.now c.loop-x.x-index 0 c.loop-x-test.true) (subst (λ (l : List ℕ). Member l x) c.in_ok-larger.ensures.positions m)

pub join-requires-clause-met : goal.join-requires-clause-met
join-requires-clause-met c =
    let x = get_or c.args.found.now c.loop-x.x-index 0 in
    ap (λ (q : List ℕ). length q) c.in_ok-larger.ensures.met ∙ (c.requires.known.met_wide ∙ sym (row_wide c.args.front.now c.args.cover.now c.requires.front c.requires.known c.requires.missed c.args.found.now c.requires.takeable x (get_member c.args.found.now c.loop-x.x-index 0 c.loop-x-test.true) c.index-front-x.result))

pub join-requires-clause-once : goal.join-requires-clause-once
join-requires-clause-once c =
    let x = get_or c.args.found.now c.loop-x.x-index 0 in
    ap (λ (q : List ℕ). length q) c.in_ok-larger.ensures.once ∙ (c.requires.known.once_wide ∙ sym (row_wide c.args.front.now c.args.cover.now c.requires.front c.requires.known c.requires.missed c.args.found.now c.requires.takeable x (get_member c.args.found.now c.loop-x.x-index 0 c.loop-x-test.true) c.index-front-x.result))

pub loop-x-preserved : goal.loop-x-preserved
loop-x-preserved c =
    let g = c.args.found.now in
    let n = c.loop-x.x-index in
    let x = get_or g n 0 in
    let l = c.loop-x-test.true in
    subst (λ (new : List Cover). AddsJoined c.args.front.now c.args.cover.now (take (n + 1) g) c.args.list.now.items new) (sym c.in_ok-push.ensures.items)
    (subst (λ (u : List ℕ). AddsJoined c.args.front.now c.args.cover.now u c.args.list.now.items (c.loop-x.list.items ++ c.join.new.cover ∷ [])) (one_more [] g n l)
    (joined_more c.args.front.now c.args.cover.now c.requires.front c.requires.known c.requires.missed g c.requires.takeable x (get_member g n 0 l) c.in_ok-larger.larger c.join.new.cover c.index-front-x.result c.in_ok-larger.ensures.positions c.in_ok-larger.ensures.met c.in_ok-larger.ensures.once c.in_ok-join.ensures.put c.in_ok-join.ensures.met c.in_ok-join.ensures.once c.in_ok-join.ensures.flags c.args.list.now.items c.loop-x.list.items (take n g) (λ y h. taken_member g n y h) (fresh_at [] g n c.requires.takeable.differ l) c.requires.ready c.loop-x.invariant))

pub returns : goal.returns
returns c =
    subst (λ (l : List ℕ). AddsJoined c.args.front.now c.args.cover.now l c.args.list.now.items c.loop-x.list.items) (take_whole c.args.found.now c.loop-x.x-index (omega arith)) c.loop-x.invariant
