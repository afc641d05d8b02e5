use Rattle.std.proofs.Common.{length}
use Rattle.cls_term.proofs.Decodes.{IsPassing}
use Rattle.cls_term.proofs.coded_term.behind_terms.Given as goal

abbrev pub decreases-loop-left : goal.decreases-loop-left
decreases-loop-left l = length l.rest

abbrev pub invariant-loop-left : goal.invariant-loop-left
invariant-loop-left l = IsPassing l.count l.code l.left l.rest
