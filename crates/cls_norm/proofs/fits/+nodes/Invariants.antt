use Rattle.std.proofs.Common.{◌≡◌, ◌+◌, ◌≤◌, drop}
use Rattle.cls_base.specs.Limits.{max_type_nodes}
use Rattle.cls_base.specs.Types.{nodes}
use Rattle.cls_path.specs.Sizes.{size_of, list_size}
use Rattle.cls_path.specs.Paths.{type_of_paths, listed}
use Rattle.cls_norm.specs.Fit.{up_to_fit}
use Rattle.cls_norm.proofs.Counts.{further_nodes}
use Rattle.cls_norm.proofs.fits.+nodes.Given as goal

abbrev pub decreases-list_nodes : goal.decreases-list_nodes
decreases-list_nodes l = list_size l.nf.now

abbrev pub decreases-path_nodes : goal.decreases-path_nodes
decreases-path_nodes l = size_of l.path.now

abbrev pub invariant-list_nodes-loop-path : goal.invariant-list_nodes-loop-path
invariant-list_nodes-loop-path l = record {
  at_most : l.count ≤ max_type_nodes + 1;
  rest : up_to_fit (nodes (type_of_paths (listed l.fn.nf))) ≡ up_to_fit (l.count + further_nodes (listed (drop l.path-index l.rest)));
}
