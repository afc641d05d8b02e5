use Rattle.std.proofs.Common.{◌<◌, ℕ}
use Rattle.cls_walk.specs.Filled.{forms_at}
use Rattle.cls_walk.specs.Forms.{AreRising}
use Rattle.cls_walk.proofs.build.each_rises.Given as goal

abbrev pub invariant-loop-node : goal.invariant-loop-node
invariant-loop-node l = (n : ℕ) → n < l.node-index → AreRising (forms_at l.forms n)
