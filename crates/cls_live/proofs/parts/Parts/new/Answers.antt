use Rattle.std.proofs.Common.{length, ◌∙◌, ap, sym}
use Rattle.cls_library.specs.Libraries.{Library}
use Rattle.cls_live.proofs.Keeping.{stored_none}
use Rattle.cls_live.proofs.parts.Parts.new.Goals as goal

pub invariant_of-result : goal.invariant_of-result
invariant_of-result c =
    stored_none c.of.result.value c.new.result.items 0 c.count.result c.new-2.result.keys c.new-3.result.items
    (c.count.ensures.count ∙ ap (λ (l : Library). length l.components) (sym c.of.ensures)) c.new-2.ensures.empty c.new-3.ensures.items
