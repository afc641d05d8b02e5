use Rattle.std.proofs.Common.{List, arith, subst, sym}
use Rattle.cls_walk.specs.Counts.{HeadRule}
use Rattle.cls_walk.specs.Orders.{InOrder}
use Rattle.cls_walk.proofs.attempt.by_frames.Goals as goal

pub invariant_of-guide : goal.invariant_of-guide
invariant_of-guide g c = record {
  ordered = λ e n.
      let P : List HeadRule → Type 0 = λ hs. InOrder hs in
      subst P (sym (c.in_ok-rules.ensures.rules.heads n)) (c.is_ordered.ensures e n);
}

pub walk_with-requires-clause-guide : goal.walk_with-requires-clause-guide
walk_with-requires-clause-guide g c = λ e.
    let book = g.B.RuleBook.book c.args.book.now in
    record {
      rules = c.in_ok-rules.ensures.rules;
      least = c.in_ok-least.ensures book c.in_ok-rules.ensures.rules c.in_ok-rules.ensures.within (omega (arith, c.count.ensures.count));
      sized = c.in_ok-sizes.ensures;
    }
