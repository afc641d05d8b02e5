use Rattle.std.proofs.Common.{◌≡◌, ◌+◌, ◌≤◌, drop}
use Rattle.cls_base.specs.Measures.{capped}
use Rattle.cls_base.specs.Types.{path_count, spread}
use Rattle.cls_path.specs.Sizes.{size_of, list_size}
use Rattle.cls_path.specs.Paths.{type_of_paths, listed}
use Rattle.cls_norm.proofs.Sums.{paths_in, spread_in}
use Rattle.cls_norm.proofs.weights.+weight.Given as goal

abbrev pub decreases-list_weight : goal.decreases-list_weight
decreases-list_weight l = list_size l.nf.now

abbrev pub decreases-path_weight : goal.decreases-path_weight
decreases-path_weight l = size_of l.path.now

abbrev pub invariant-list_weight-loop-path : goal.invariant-list_weight-loop-path
invariant-list_weight-loop-path l = record {
  few : l.paths ≤ 1000001;
  narrow : l.spread ≤ 1000001;
  paths_left : capped (path_count (type_of_paths (listed l.fn.nf))) ≡ capped (l.paths + paths_in (listed (drop l.path-index l.path-items)));
  spread_left : capped (spread (type_of_paths (listed l.fn.nf))) ≡ capped (l.spread + spread_in (listed (drop l.path-index l.path-items)));
}
