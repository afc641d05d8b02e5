use Rattle.std.proofs.Common.{◌+◌, length, map, take, drop, subst}
use Rattle.std.proofs.lemmas.Result.{err_from_is_err_and}
use Rattle.std.proofs.lemmas.List.{map_more}
use Rattle.cls_base.specs.Schemas.{schema_of}
use Rattle.cls_taxon.specs.Orders.{Declared}
use Rattle.cls_library.specs.Libraries.{total_of}
use Rattle.cls_library.specs.Refusals.{Adds, IsRefused}
use Rattle.cls_library.proofs.LibraryLaws.{library-none, adding, refuses-next, map-split}
use Rattle.cls_library.proofs.library.Library.build.Goals as goal

pub loop-schema-init : goal.loop-schema-init
loop-schema-init c = rw c.new.ensures.items (library-none c.args.taxonomy c.args.kinds.now)

pub returns-in_err-add-clause-refused : goal.returns-in_err-add-clause-refused
returns-in_err-add-clause-refused c =
    let xs = c.args.components.now in
    let i = c.loop-schema.schema-index in
    let l = c.loop-schema.library in
    let d = c.args.taxonomy in
    let refused : IsRefused d c.args.kinds.now (length l.components) (total_of l.components) (schema_of c.schema-item.result) c.in_err-add.field-0.0.kind = subst (λ (e : Declared). IsRefused e c.args.kinds.now (length l.components) (total_of l.components) (schema_of c.schema-item.result) c.in_err-add.field-0.0.kind) c.loop-schema.invariant.taxonomy c.in_err-add.ensures.refused in
    let p = err_from_is_err_and c.from_residual.result c.from_residual.ensures.1 in
    rw (p.1, p.2)
    (refuses-next d c.args.kinds.now (map schema_of xs) (map schema_of (take i xs)) (map schema_of (drop (i + 1) xs)) (schema_of c.schema-item.result) l c.in_err-add.field-0.0
    (map-split schema_of xs i c.schema-item.result c.loop-schema-test.true c.schema-item.is) c.loop-schema.invariant c.in_err-add.ensures.number refused)

pub loop-schema-preserved : goal.loop-schema-preserved
loop-schema-preserved c =
    let xs = c.args.components.now in
    let i = c.loop-schema.schema-index in
    let d = c.args.taxonomy in
    let before = map schema_of (take i xs) in
    let adds : Adds d c.args.kinds.now (schema_of c.schema-item.result) c.loop-schema.library c.add.new.self = subst (λ (e : Declared). Adds e c.args.kinds.now (schema_of c.schema-item.result) c.loop-schema.library c.add.new.self) c.loop-schema.invariant.taxonomy c.in_ok-add.ensures.added in
    rw (map_more schema_of xs i c.schema-item.result c.loop-schema-test.true, ← c.schema-item.is)
    (adding d c.args.kinds.now before (schema_of c.schema-item.result) c.loop-schema.library c.add.new.self c.loop-schema.invariant adds)
