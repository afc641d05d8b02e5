use Rattle.std.proofs.Common.{ℕ, ◌<◌, IsTrue, get_or}
use Rattle.cls_cover.specs.declared.cover.Cover.{Cover}
use Rattle.cls_cover.specs.Flags.{bit}
use Rattle.cls_cover.proofs.grow.all_meet.Given as goal

abbrev pub invariant-loop-cover : goal.invariant-loop-cover
invariant-loop-cover l = (k : ℕ) (d : Cover) → k < l.cover-index → IsTrue (bit (get_or l.covers k d).met l.front.count)
