use Rattle.std.proofs.Common.{◌≡◌}
use Rattle.cls_assemble.specs.Lengths.{capped_length}
use Rattle.cls_assemble.specs.Counts.{products}
use Rattle.cls_assemble.proofs.counts.Counts.length.Given as goal

abbrev pub invariant-loop-i : goal.invariant-loop-i
invariant-loop-i l = l.total ≡ capped_length (products l.lengths l.self.holes l.i)
