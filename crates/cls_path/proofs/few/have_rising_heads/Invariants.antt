use Rattle.std.proofs.Common.{drop}
use Rattle.cls_path.proofs.RisingHeads.{Rises}
use Rattle.cls_path.proofs.few.have_rising_heads.Given as goal

-- if those that are left rise above the last class, all rise
abbrev pub invariant-loop-path : goal.invariant-loop-path
invariant-loop-path g l =
    Rises (g.T.Taxa.class l.taxa) l.last (drop l.path-index l.paths) → Rises (g.T.Taxa.class l.taxa) 0 l.paths
