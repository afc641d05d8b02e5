use Rattle.std.proofs.Common.{ap}
use Rattle.cls_library.specs.Libraries.{Library}
use Rattle.cls_library.proofs.Indexing.{index-found}
use Rattle.cls_library.proofs.library.Library.index_of.Goals as goal

pub returns : goal.returns
returns c =
    let inside = c.self.inside in
    index-found inside.components.items c.args.self.now.components inside.index c.as_ref.result (ap (λ (l : Library). l.components) c.self.view_is) c.as_ref.ensures.value c.self.invariant.1
