use Rattle.cls_assemble.proofs.HoleCounts.{AreCounted-none}
use Rattle.cls_assemble.proofs.counts.Counts.new.Goals as goal

pub returns : goal.returns
returns c = AreCounted-none
