use Rattle.std.proofs.Common.{◌≡◌, length, max}
use Rattle.cls_term.specs.Components.{greatest_of}
use Rattle.cls_query.proofs.GreatestNumbers.{greatest_at}
use Rattle.cls_query.proofs.greatest.greatest.Given as goal

abbrev pub decreases-loop-rest : goal.decreases-loop-rest
decreases-loop-rest l = length l.rest

abbrev pub invariant-loop-rest : goal.invariant-loop-rest
invariant-loop-rest l = max l.most (greatest_at l.rest) ≡ greatest_of l.term
