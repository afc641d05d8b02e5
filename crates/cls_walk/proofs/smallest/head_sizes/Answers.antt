use Rattle.std.proofs.Common.{ℕ, List, [], ap, arith, length, subst}
use Rattle.std.proofs.lemmas.List.{length_push}
use Rattle.cls_term.specs.Costs.{cost_of}
use Rattle.cls_walk.specs.FrameBegins.{heads_in, AreTotals}
use Rattle.cls_walk.specs.FrameRules.{head_size}
use Rattle.cls_walk.specs.declared.rules.Head.{Head}
use Rattle.cls_walk.proofs.FrameLeast.{heads-here, sized-whole}
use Rattle.cls_walk.proofs.FrameRules.{each-more}
use Rattle.cls_walk.proofs.smallest.head_sizes.Goals as goal

pub loop-heads-preserved : goal.loop-heads-preserved
loop-heads-preserved c =
    let rules = c.args.rules.now in
    let own = head_size (cost_of c.args.costs.now) c.args.least.now in
    let i = c.loop-heads.heads-index in
    let x = c.in_ok-head_sizes_of.field-0.items in
    let P : ℕ → List ℕ → Type 0 = λ n ns. AreTotals own (heads_in rules n) ns in
    let Q : List Head → Type 0 = λ hs. AreTotals own hs x in
    let here = heads-here rules c.deref-heads-items.result.now i c.heads-item.result c.as_slice.result.now c.deref-heads-items.ensures.value c.loop-heads-test.true c.heads-item.is c.as_slice.ensures.value in
    record {
      long = omega (arith, ap length c.in_ok-push.ensures.ok, length_push c.loop-heads.sizes x, c.loop-heads.invariant.long);
      each = each-more P [] c.loop-heads.sizes c.push.new.self x i c.in_ok-push.ensures.ok c.loop-heads.invariant.long c.loop-heads.invariant.each (subst Q here c.in_ok-head_sizes_of.ensures);
    }

pub returns : goal.returns
returns c =
    sized-whole (head_size (cost_of c.args.costs.now) c.args.least.now) c.args.rules.now c.loop-heads.heads-index c.loop-heads.sizes
    (omega (arith, c.loop-heads-test.false, c.deref-heads-items.ensures.len, ap length c.deref-heads-items.ensures.value)) c.loop-heads.invariant.each
