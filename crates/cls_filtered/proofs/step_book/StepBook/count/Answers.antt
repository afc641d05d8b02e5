use Rattle.std.proofs.Common.{length, ap, arith}
use Rattle.cls_filtered.proofs.StepBooks.{step_book-length}
use Rattle.cls_filtered.proofs.step_book.StepBook.count.Goals as goal

pub overflow_cast-result : goal.overflow_cast-result
overflow_cast-result c =
    omega (arith, c.self.invariant.1, c.len-nodes.ensures, c.len-parts.ensures, c.self.inside.ends.ok.0, c.self.inside.parts.ok.0)

pub returns : goal.returns
returns c =
    let whole = step_book-length c.self.inside.lasts.items c.self.inside.ends.items c.self.inside.parts.items in
    omega (arith, whole, ap length c.self.view_is, c.len-nodes.ensures, c.len-parts.ensures, c.self.inside.ends.ok.0, c.self.inside.parts.ok.0)
