use Rattle.std.proofs.Common.{◌≡◌, drop}
use Rattle.std.specs.List.{list_any}
use Rattle.cls_taxon.specs.Decisions.{is_below}
use Rattle.cls_library.specs.Endings.{may_end_below}
use Rattle.cls_library.proofs.endings.Endings.may_lead.Given as goal

abbrev pub invariant-loop-lower : goal.invariant-loop-lower
invariant-loop-lower l = list_any (λ lower. may_end_below (is_below l.taxonomy) l.count lower l.sought.ending) (drop l.lower-index l.lower-items) ≡ list_any (λ lower. may_end_below (is_below l.taxonomy) l.count lower l.sought.ending) l.lower-items
