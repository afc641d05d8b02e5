use Rattle.std.proofs.Common.{ℕ, List, ◌≡◌, ◌∙◌, ◌↔◌, map, sym, subst}
use Rattle.cls_cover.specs.Members.{Member, Differ}
use Rattle.cls_cover.specs.Sets.{members}
use Rattle.cls_cover.specs.Choosing.{AreApart}
use Rattle.cls_cover.proofs.small.list_small.Goals as goal

pub in_order-requires-clause-differ : goal.in_order-requires-clause-differ
in_order-requires-clause-differ c =
    let e : c.in_ok-copy.copy.items ≡ c.args.small.now.list.items = c.in_ok-copy.ensures.items ∙ c.as_slice.ensures.value in
    subst (λ (l : List ℕ). Differ (map members l)) (sym e) c.requires.differ

pub in_order-requires-clause-apart : goal.in_order-requires-clause-apart
in_order-requires-clause-apart c =
    let e : c.in_ok-copy.copy.items ≡ c.args.small.now.list.items = c.in_ok-copy.ensures.items ∙ c.as_slice.ensures.value in
    subst (λ (l : List ℕ). AreApart (map members l)) (sym e) c.requires.apart

pub returns : goal.returns
returns c =
    let e : c.in_ok-copy.copy.items ≡ c.args.small.now.list.items = c.in_ok-copy.ensures.items ∙ c.as_slice.ensures.value in
    let listed = c.in_ok-in_order.ensures in
    record {
      rises = listed.rises;
      same = (λ s. subst (λ (l : List ℕ). Member c.in_ok-in_order.field-0 s ↔ Member (map members l) s) e (listed.same s));
    }
