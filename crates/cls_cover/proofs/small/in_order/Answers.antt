use Rattle.std.proofs.Common.{ℕ, List, ◌<◌, ◌^◌, ◌↔◌, map, length, get_or, sym, subst, arith}
use Rattle.cls_base.specs.Terms.{Precedes}
use Rattle.cls_cover.specs.Members.{Member, Rises}
use Rattle.cls_cover.specs.Sets.{members}
use Rattle.cls_cover.proofs.SetOrder.{ordered, ordered_same}
use Rattle.cls_cover.proofs.small.in_order.Goals as goal

pub returns-clause-rises : goal.returns-clause-rises
returns-clause-rises c =
    let small : (i : ℕ) → i < length c.args.sets.items → get_or c.args.sets.items i 0 < 2 ^ 128 = λ i l. omega arith in
    subst (λ (l : List (List ℕ)). Rises Precedes l) (sym c.in_ok-from_greatest.ensures)
    (ordered c.args.sets.items c.sort_unstable.new.self.items c.sort_unstable.ensures.permutation small c.sort_unstable.ensures.sorted c.requires.differ c.requires.apart)

pub returns-clause-same : goal.returns-clause-same
returns-clause-same c = λ s.
    subst (λ (l : List (List ℕ)). Member l s ↔ Member (map members c.args.sets.items) s) (sym c.in_ok-from_greatest.ensures)
    (ordered_same c.args.sets.items c.sort_unstable.new.self.items c.sort_unstable.ensures.permutation s)
