use Rattle.std.proofs.Common.{◌≡◌, ◌<◌, ◌≤◌, ℕ, List, Vec, Global, arith, length, map, subst}
use Rattle.cls_base.specs.Languages.{rules_at}
use Rattle.cls_enum.specs.Candidates.{over}
use Rattle.cls_walk.specs.Counts.{heads_of, pairs_of}
use Rattle.cls_walk.specs.FrameColumns.{head_of, pair_of}
use Rattle.cls_walk.specs.FrameRules.{made_by, mades_at, pairs_at}
use Rattle.cls_walk.specs.declared.rules.Head.{Head}
use Rattle.cls_walk.specs.declared.rules.Pair.{Pair}
use Rattle.cls_walk.proofs.FrameRules.{columns-whole, heads-past, pairs-past, mades-whole, pairs-within}
use Rattle.cls_walk.proofs.rules.rules_of.Goals as goal

pub returns-clause-within : goal.returns-clause-within
returns-clause-within g c =
    pairs-within (g.B.RuleBook.book c.args.book.now) c.loop-node.node (omega (arith, c.loop-node-test.false, c.count-node-end.ensures.count)) c.loop-node.invariant.within

pub returns-clause-rules : goal.returns-clause-rules
returns-clause-rules g c =
    let book = g.B.RuleBook.book c.args.book.now in
    let i = c.loop-node.node in
    let end : length book ≤ i = omega (arith, c.loop-node-test.false, c.count-node-end.ensures.count) in
    let heads = c.loop-node.heads.items in
    let pairs = c.loop-node.pairs.items in
    let makes = c.in_ok-makes.makes.items in
    let count = c.count.result in
    let P : ℕ → List Head → Type 0 = λ n hs. map head_of hs ≡ heads_of (rules_at book n) in
    let Q : ℕ → List Pair → Type 0 = λ n ps. map pair_of ps ≡ pairs_of (rules_at book n) in
    let R : List (Vec Pair Global) → Type 0 = λ columns. (l : ℕ) → l < count → mades_at makes l ≡ over count (λ k. made_by l k (pairs_at columns k)) in
    let whole = columns-whole (λ v. v.items) Q pairs i c.loop-node.invariant.long (λ n l. pairs-past book n (omega (arith, end, l))) c.loop-node.invariant.pairs in
    record {
      heads = columns-whole (λ v. v.items) P heads i c.loop-node.invariant.many (λ n l. heads-past book n (omega (arith, end, l))) c.loop-node.invariant.heads;
      pairs = whole;
      makes = mades-whole book pairs makes count c.count.ensures.count whole (pairs-within book i end c.loop-node.invariant.within) c.in_ok-makes.ensures.long (subst R c.as_slice.ensures.value c.in_ok-makes.ensures.made);
    }
