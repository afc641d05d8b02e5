use Rattle.std.proofs.Common.{List, subst}
use Rattle.cls_library.specs.Index.{IsIndex}
use Rattle.cls_library.specs.Libraries.{Component}
use Rattle.cls_library.proofs.library.Library.index.Goals as goal

pub invariant_of-self-in_ok-new-2 : goal.invariant_of-self-in_ok-new-2
invariant_of-self-in_ok-new-2 c = (c.self.invariant.0, subst (λ (cs : List Component). IsIndex cs c.in_ok-new.field-0) c.deref.ensures.value c.in_ok-new.ensures)
