use Rattle.std.proofs.Common.{ℕ, List, ◌<◌, ◌+◌, Vec, Global, map, take, length, [], sym, subst, arith}
use Rattle.std.proofs.lemmas.List.{length-map}
use Rattle.cls_base.proofs.Lists.{take_whole}
use Rattle.cls_cover.specs.Sets.{members}
use Rattle.cls_cover.specs.Choosing.{IsGivenBy}
use Rattle.cls_cover.proofs.Choosing.{by_none, place_cover, place_free, place_more, place_full}
use Rattle.cls_cover.proofs.small.grow.Goals as goal
use Rattle.cls_cover.proofs.small.grow.Goals.{then-len-limit+in_ok-add, else-len-limit}

pub add-requires-clause-minimal : goal.add-requires-clause-minimal
add-requires-clause-minimal c =
    let b = c.args.begun.now in
    place_cover b.families.now b.count c.requires.begun.more c.args.limit c.args.covers.now c.loop-cover.cover-index c.loop-cover-test.true c.requires.covers

pub add-requires-clause-free : goal.add-requires-clause-free
add-requires-clause-free c =
    let b = c.args.begun.now in
    place_free b.families.now b.count c.requires.begun.more c.args.limit c.args.covers.now c.loop-cover.cover-index c.loop-cover-test.true c.requires.covers (map members c.loop-cover.list.items) c.loop-cover.invariant

pub loop-cover-init : goal.loop-cover-init
loop-cover-init c =
    let b = c.args.begun.now in
    subst (λ (l : List ℕ). IsGivenBy b.families.now b.count c.args.limit [] (map members l)) (sym c.clear.ensures.items) (by_none b.families.now b.count c.requires.begun.more c.args.limit)

pub loop-cover-preserved : goal.loop-cover-preserved
loop-cover-preserved c =
    let b = c.args.begun.now in
    let xs = c.args.covers.now in
    let i = c.loop-cover.cover-index in
    let news = map members c.loop-cover.list.items in
    let many = length-map c.loop-cover.list.items members in
    elim c.if-len-limit.branch [
      | then-len-limit+in_ok-add w ↦
          subst (λ (v : Vec ℕ Global). IsGivenBy b.families.now b.count c.args.limit (map members (take (i + 1) xs)) (map members v.items)) (sym w.list-is)
          (place_more b.families.now b.count c.requires.begun.more c.args.limit xs i c.loop-cover-test.true c.requires.covers news c.loop-cover.invariant (map members w.add.new.list.items) w.in_ok-add.ensures)
      | else-len-limit w ↦
          let over : c.args.limit < length news = omega arith in
          subst (λ (v : Vec ℕ Global). IsGivenBy b.families.now b.count c.args.limit (map members (take (i + 1) xs)) (map members v.items)) (sym w.list-is)
          (place_full b.families.now b.count c.requires.begun.more c.args.limit xs i c.loop-cover-test.true c.requires.covers news c.loop-cover.invariant over)
    ]

pub returns : goal.returns
returns c =
    let b = c.args.begun.now in
    subst (λ (l : List ℕ). IsGivenBy b.families.now b.count c.args.limit (map members l) (map members c.loop-cover.list.items)) (take_whole c.args.covers.now c.loop-cover.cover-index c.loop-cover-test.false) c.loop-cover.invariant
