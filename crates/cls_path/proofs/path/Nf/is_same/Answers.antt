use Rattle.std.proofs.Common.{arith, sym, ◌∙◌}
use Rattle.cls_path.proofs.Same.{other_lengths, other_paths, all_paths}
use Rattle.cls_path.proofs.path.Nf.is_same.Goals as goal

pub returns-then-ones-others : goal.returns-then-ones-others
returns-then-ones-others c =
    rw (← c.self.view_is, ← c.other.view_is, ← c.as_slice-ones.ensures, ← c.as_slice-others.ensures)
    (other_lengths c.as_slice-ones.result.now c.as_slice-others.result.now c.if-ones-others.true)

pub returns-then-is_ne : goal.returns-then-is_ne
returns-then-is_ne c =
    let e = sym c.order_by_kind.ensures in
    rw (← c.self.view_is, ← c.other.view_is, ← c.as_slice-ones.ensures, ← c.as_slice-others.ensures)
    (other_paths c.loop-i.i c.as_slice-ones.result.now c.as_slice-others.result.now c.index-ones-i.result c.index-others-i.result (omega arith) (omega arith) c.index-ones-i.is c.index-others-i.is
    (rw e (sym c.is_ne.ensures ∙ c.if-is_ne.true)) c.loop-i.invariant.rest)

pub returns : goal.returns
returns c =
    rw (← c.self.view_is, ← c.other.view_is, ← c.as_slice-ones.ensures, ← c.as_slice-others.ensures)
    (all_paths c.loop-i.i c.as_slice-ones.result.now c.as_slice-others.result.now (omega arith) (omega arith) c.loop-i.invariant.rest)
