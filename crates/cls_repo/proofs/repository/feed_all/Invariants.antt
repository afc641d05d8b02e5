use Rattle.std.proofs.Common.{drop}
use Rattle.cls_repo.proofs.AllLines.{IsGoing}
use Rattle.cls_repo.proofs.repository.feed_all.Given as goal

abbrev pub invariant-loop-line : goal.invariant-loop-line
invariant-loop-line l = IsGoing l.fn.reader l.lines l.reader (drop l.line-index l.lines)
