use Rattle.std.proofs.Common.{◌≡◌, drop, length}
use Rattle.cls_path.specs.PathOrder.{list_order}
use Rattle.cls_path.proofs.path.Nf.is_same.Given as goal

abbrev pub invariant-loop-i : goal.invariant-loop-i
invariant-loop-i l = record {
  same_length : length l.ones ≡ length l.others;
  rest : list_order l.ones l.others ≡ list_order (drop l.i l.ones) (drop l.i l.others);
}
