use Rattle.std.proofs.Common.{rules, arith, ap, sym, ◌∙◌}
use Rattle.cls_base.specs.Types.{path_count, spread}
use Rattle.cls_path.specs.Falls.{sizes_of-listed}
use Rattle.cls_path.specs.Paths.{type_of_paths, listed}
use Rattle.cls_path.specs.Sizes.{size_of, list_size}
use Rattle.cls_norm.proofs.Sizes.{size_at}
use Rattle.cls_norm.proofs.Sums.{paths-listed, spread-listed}
use Rattle.cls_norm.proofs.weights.+weight.Goals as goal

pub list_weight-loop-path-init : goal.list_weight-loop-path-init
list_weight-loop-path-init t c =
    let xs = c.paths-path-items.result.now in
    let p = ap (λ l. path_count (type_of_paths (listed l))) (sym c.paths-path-items.ensures) ∙ paths-listed (listed xs) in
    let s = ap (λ l. spread (type_of_paths (listed l))) (sym c.paths-path-items.ensures) ∙ spread-listed (listed xs) in
    record { few = omega arith; narrow = omega arith; paths_left = omega (arith, p); spread_left = omega (arith, s) }

pub list_weight-path_weight-p-requires : goal.list_weight-path_weight-p-requires
list_weight-path_weight-p-requires t c =
    let s = size_at c.paths-path-items.result.now c.loop-path.path-index c.path-item.result c.loop-path-test.true c.path-item.is in
    let e = ap list_size c.paths-path-items.ensures in
    search rules

pub path_weight-list_weight-s-requires : goal.path_weight-list_weight-s-requires
path_weight-list_weight-s-requires t c =
    let s = sizes_of-listed c.in-Arrow.arrow.value.source in
    let e = ap size_of c.form.ensures in
    search rules

pub path_weight-list_weight-p-requires : goal.path_weight-list_weight-p-requires
path_weight-list_weight-p-requires t c =
    let s = sizes_of-listed c.in-Sealed.argument.value in
    let e = ap size_of c.form.ensures in
    search rules
