use Rattle.std.proofs.Common.{rules, arith, ap}
use Rattle.cls_path.specs.Falls.{sizes_of-listed}
use Rattle.cls_path.specs.Sizes.{size_of}
use Rattle.cls_norm.proofs.Counts.{nodes-first}
use Rattle.cls_norm.proofs.Sizes.{size_in_rest}
use Rattle.cls_norm.proofs.fits.+nodes.Goals as goal

pub list_nodes-loop-path-init : goal.list_nodes-loop-path-init
list_nodes-loop-path-init t c =
    let e = nodes-first c.args.nf.now c.paths.result.now c.first-item.result c.paths.ensures c.in-len1-up.len_at_least c.first-item.is in
    record { at_most = omega (arith, c.path_nodes-count.ensures); rest = omega (arith, c.path_nodes-count.ensures, e) }

pub list_nodes-path_nodes-requires : goal.list_nodes-path_nodes-requires
list_nodes-path_nodes-requires t c =
    let s = size_in_rest c.args.nf.now c.paths.result.now c.loop-path.path-index c.path-item.result c.paths.ensures c.loop-path-test.true c.path-item.is in
    search rules

pub path_nodes-list_nodes-requires : goal.path_nodes-list_nodes-requires
path_nodes-list_nodes-requires t c =
    let s = sizes_of-listed c.in-Arrow.arrow.value.source in
    let e = ap size_of c.form.ensures in
    search rules

pub path_nodes-list_nodes-requires-in-Sealed : goal.path_nodes-list_nodes-requires-in-Sealed
path_nodes-list_nodes-requires-in-Sealed t c =
    let s = sizes_of-listed c.in-Sealed.argument.value in
    let e = ap size_of c.form.ensures in
    search rules
