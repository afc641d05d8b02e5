use Rattle.std.proofs.Common.{vec_len}
use Rattle.cls_base.specs.Taxa.{Below}
use Rattle.cls_path.specs.Paths.{listed}
use Rattle.cls_path.proofs.Remains.{Remains}
use Rattle.cls_path.proofs.few.form_of_few.Given as goal

abbrev pub invariant-loop-path : goal.invariant-loop-path
invariant-loop-path g l =
    Remains (Below (g.T.Taxa.is_below l.taxa)) (g.T.Taxa.variance_of_name l.taxa) (listed l.fn.paths.items) (listed l.nf) (listed l.paths.items)

abbrev pub decreases-loop-path : goal.decreases-loop-path
decreases-loop-path g l = vec_len l.paths
