use Rattle.std.proofs.Common.{◌≡◌, ◌+◌, ◌∙◌, ℕ, List, ap, map, sym, subst, arith}
use Rattle.std.specs.Prelude.{Vec}
use Rattle.std.specs.Global.{Global}
use Rattle.cls_walk.specs.FrameBegins.{heads_in, AreTotals}
use Rattle.cls_walk.specs.FrameColumns.{head_of}
use Rattle.cls_walk.specs.FrameOffered.{AreGatheredBy, AreGatheredTo}
use Rattle.cls_walk.specs.Openings.{ArePut}
use Rattle.cls_walk.specs.declared.opening.Opening.{Opening}
use Rattle.cls_walk.specs.declared.rules.Head.{Head}
use Rattle.cls_walk.proofs.FrameGathered.{gathered-next, gathered-whole}
use Rattle.cls_walk.proofs.PutOffers.{put-none, put-then}
use Rattle.cls_walk.proofs.offers.gather_by.Goals as goal
use Rattle.cls_walk.proofs.offers.gather_by.Goals.{then-number_in-left+in_ok-gather_one, else-number_in-left}

pub loop-index-preserved : goal.loop-index-preserved
loop-index-preserved c =
    let inv = c.loop-index.invariant in
    let i = c.loop-index.index in
    let heads = c.heads_of-heads.result.now in
    let first = c.args.first in
    let behind = c.args.aim.behind in
    let pairs = c.args.pairs in
    let old = c.loop-index.offers.items in
    elim c.if-number_in-left.branch [
      | then-number_in-left+in_ok-gather_one w ↦
          let e = w.in_ok-gather_one.ensures in
          let new = w.gather_one.new.offers.items in
          let same : c.if-number_in-left.offers.items ≡ new = ap (λ (v : Vec Opening Global). v.items) w.offers-is in
          record {
            put = let P : List Opening → Type 0 = λ os. ArePut first c.args.offers.now.items os in subst P (sym same) (put-then first c.args.offers.now.items old new inv.put e.put);
            gathered = λ own t.
                let P : List Opening → Type 0 = λ os. AreGatheredTo own c.args.size c.args.spare first behind pairs heads (i + 1) os in
                subst P (sym same) (gathered-next own c.args.size c.args.spare first behind pairs heads i old new e.put
                (λ m. e.here m.few) (inv.gathered own t));
          }
      | else-number_in-left w ↦
          let same : c.if-number_in-left.offers.items ≡ old = ap (λ (v : Vec Opening Global). v.items) w.offers-is in
          record {
            put = let P : List Opening → Type 0 = λ os. ArePut first c.args.offers.now.items os in subst P (sym same) inv.put;
            gathered = λ own t.
                let P : List Opening → Type 0 = λ os. AreGatheredTo own c.args.size c.args.spare first behind pairs heads (i + 1) os in
                subst P (sym same) (gathered-next own c.args.size c.args.spare first behind pairs heads i old old (put-none first old inv.put.within inv.put.rising)
                (λ m. absurd (
                let n = c.number_in.ensures ∙ t i c.loop-index-test.true in
                let l = w.if-number_in-left.false in
                let z = c.from-2.ensures in
                let o = m.small in
                omega (arith, n, l, z, o)
                )) (inv.gathered own t));
          }
    ]

pub returns-clause-gathered : goal.returns-clause-gathered
returns-clause-gathered c = λ own s.
    let rules = c.args.guide.rules.now in
    let n = c.args.aim.node in
    let heads = c.heads_of-heads.result.now in
    let same = c.heads_of-heads.ensures in
    let offers = c.loop-index.offers.items in
    let P : List Head → Type 0 = λ hs. AreTotals own hs c.column-sizes.result.now in
    let Q : List ℕ → Type 0 = λ ns. AreTotals own (heads_in rules n) ns in
    let t = subst P (sym same) (subst Q (sym c.column-sizes.ensures) (s n)) in
    let S : List Head → Type 0 = λ hs. AreGatheredBy own c.args.size c.args.spare c.args.first c.args.aim.behind c.args.pairs (map head_of hs) offers in
    subst S same (gathered-whole own c.args.size c.args.spare c.args.first c.args.aim.behind c.args.pairs heads c.loop-index.index offers c.loop-index-test.false (c.loop-index.invariant.gathered own t))
