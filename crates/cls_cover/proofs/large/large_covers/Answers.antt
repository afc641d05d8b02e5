use Rattle.std.proofs.Common.{ℕ, ◌≡◌, List, sym, subst, ◌<◌, take, arith}
use Rattle.std.specs.Prelude.{IfSome}
use Rattle.cls_cover.specs.Forced.{IsForced}
use Rattle.cls_cover.specs.MemberCovers.{AreCoverSets}
use Rattle.cls_cover.proofs.Public.{to_covers, from_more}
use Rattle.cls_cover.proofs.SingleFamilies.{forced_covers, single_within}
use Rattle.cls_cover.proofs.Steps.{covers_found}
use Rattle.cls_cover.proofs.large.large_covers.Goals as goal

positive : (limit : ℕ) → 0 < limit → limit ≡ 0 → ⊥
positive limit l e = omega arith

pub loop-count-init : goal.loop-count-init
loop-count-init c = c.in_ok-large.ensures c.args.limit c.requires.positive

pub loop-count-preserved : goal.loop-count-preserved
loop-count-preserved c = c.in_ok-large-2.ensures.covers

pub list_large-requires : goal.list_large-requires
list_large-requires c = c.loop-count.invariant.found.differ

pub returns-clause-covers : goal.returns-clause-covers
returns-clause-covers c =
    let listed = c.in_ok-list_large.ensures in
    to_covers c.args.families.now c.in_ok-list_large.field-0
    (covers_found c.args.families.now c.loop-count.count c.loop-count.large.list.items c.in_ok-list_large.field-0 (omega arith) c.loop-count.invariant.found listed.rises listed.same)

pub returns-clause-within : goal.returns-clause-within
returns-clause-within c = λ j l m. c.loop-count.invariant.within.few j (omega arith) (from_more (take j c.args.families.now) c.args.limit m)

pub returns-in-Some-clause-covers : goal.returns-in-Some-clause-covers
returns-in-Some-clause-covers c =
    let h : IsForced c.args.families.now c.in-Some.cover.items = subst (λ found. IfSome found (λ cover. IsForced c.args.families.now cover.items)) c.in-Some.is c.in_ok-cover.ensures in
    to_covers c.args.families.now c.in_ok-only-in-Some.field-0
    (subst (λ (list : List (List ℕ)). AreCoverSets c.args.families.now list) (sym c.in_ok-only-in-Some.ensures)
    (forced_covers c.args.families.now c.in-Some.cover.items h))

pub returns-in-Some-clause-within : goal.returns-in-Some-clause-within
returns-in-Some-clause-within c = λ j l m.
    let h : IsForced c.args.families.now c.in-Some.cover.items = subst (λ found. IfSome found (λ cover. IsForced c.args.families.now cover.items)) c.in-Some.is c.in_ok-cover.ensures in
    single_within c.args.families.now h.single_each c.args.limit (positive c.args.limit c.requires.positive) j (from_more (take j c.args.families.now) c.args.limit m)
