use Rattle.std.proofs.Common.{ℕ, List, ap, arith, length, map, subst}
use Rattle.std.proofs.lemmas.List.{length_push}
use Rattle.cls_term.specs.Costs.{cost_of}
use Rattle.cls_walk.specs.Counts.{HeadRule}
use Rattle.cls_walk.specs.FrameBegins.{heads_in}
use Rattle.cls_walk.specs.FrameColumns.{head_of, pair_of}
use Rattle.cls_walk.specs.FrameRules.{head_size, pair_size, pairs_in, IsLowest, IsRaised}
use Rattle.cls_walk.specs.declared.rules.Head.{Head}
use Rattle.cls_walk.specs.declared.rules.Pair.{Pair}
use Rattle.cls_walk.proofs.FrameRules.{each-more}
use Rattle.cls_walk.proofs.smallest.raised.Goals as goal

pub loop-node-preserved : goal.loop-node-preserved
loop-node-preserved c =
    let rules = c.args.rules.now in
    let cost = cost_of c.args.costs.now in
    let least = c.args.least.now in
    let i = c.loop-node.node in
    let P : ℕ → ℕ → Type 0 = λ n x. IsRaised cost least c.args.most (map head_of (heads_in rules n)) (map pair_of (pairs_in rules n)) x in
    let H : List Head → Type 0 = λ hs. IsLowest HeadRule (head_size cost least) c.args.most (map head_of hs) c.least_head-head.result in
    let Q : List Pair → Type 0 = λ ps. IsLowest (ℕ × ℕ) (pair_size least) c.least_head-head.result (map pair_of ps) c.least_pair.result in
    record {
      long = omega (arith, ap length c.in_ok-push.ensures.items, length_push c.loop-node.new.items c.least_pair.result, c.loop-node.invariant.long);
      each = each-more P 0 c.loop-node.new.items c.push.new.self.items c.least_pair.result i c.in_ok-push.ensures.items c.loop-node.invariant.long c.loop-node.invariant.each record {
        head = c.least_head-head.result;
        by_head = subst H c.heads_of.ensures c.least_head-head.ensures;
        by_pair = subst Q c.pairs_of.ensures c.least_pair.ensures;
      };
    }
