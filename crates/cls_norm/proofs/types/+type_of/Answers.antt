use Rattle.std.proofs.Common.{rules, ap}
use Rattle.cls_path.specs.Falls.{sizes_of-listed}
use Rattle.cls_path.specs.Sizes.{size_of}
use Rattle.cls_norm.proofs.Sizes.{size_in_rest}
use Rattle.cls_norm.proofs.types.+type_of.Goals as goal

pub type_of-path_type-requires-in-loop-path : goal.type_of-path_type-requires-in-loop-path
type_of-path_type-requires-in-loop-path t c =
    let s = size_in_rest c.args.nf.now c.paths.result.now c.loop-path.path-index c.path-item.result c.paths.ensures c.loop-path-test.true c.path-item.is in
    search rules

pub path_type-type_of-requires : goal.path_type-type_of-requires
path_type-type_of-requires t c =
    let s = sizes_of-listed c.in-Arrow.arrow.value.source in
    let e = ap size_of c.form.ensures in
    search rules

pub path_type-type_of-requires-in-Sealed : goal.path_type-type_of-requires-in-Sealed
path_type-type_of-requires-in-Sealed t c =
    let s = sizes_of-listed c.in-Sealed.argument.value in
    let e = ap size_of c.form.ensures in
    search rules
