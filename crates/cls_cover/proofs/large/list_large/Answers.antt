use Rattle.std.proofs.Common.{List, ◌↔◌, sym, subst}
use Rattle.cls_cover.specs.declared.cover.Cover.{Cover}
use Rattle.cls_cover.specs.Members.{Member, Differ}
use Rattle.cls_cover.specs.Growing.{sets}
use Rattle.cls_cover.proofs.large.list_large.Goals as goal

pub in_order-requires : goal.in_order-requires
in_order-requires c = subst (λ (l : List Cover). Differ (sets l)) (sym c.as_slice.ensures.value) c.requires

pub returns : goal.returns
returns c =
    let listed = c.in_ok-in_order.ensures in
    record {
      rises = listed.rises;
      same = (λ s. subst (λ (l : List Cover). Member c.in_ok-in_order.field-0 s ↔ Member (sets l) s) c.as_slice.ensures.value (listed.same s));
    }
