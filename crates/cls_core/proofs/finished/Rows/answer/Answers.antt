use Rattle.std.proofs.Common.{refl, arith, ap, ◌∙◌, length, subst, ◌≡◌, ◌<◌, Some, slice_get}
use Rattle.std.specs.Prelude.{option_map}
use Rattle.std.proofs.lemmas.Option.{slice_get_read}
use Rattle.cls_core.specs.Rows.{Row}
use Rattle.cls_core.proofs.FiledRows.{filed-count, filed-answer, filed-is}
use Rattle.cls_core.proofs.finished.Rows.answer.Goals as goal

pub index-requires : goal.index-requires
index-requires g c =
    let i = c.self.inside in
    let k = c.self.invariant in
    omega (arith, c.requires, i.states.ok.0, k.paired, filed-count i.goals.keys i.states.items k.paired k.filed, ap length c.self.view_is)

pub unreachable-requires : goal.unreachable-requires
unreachable-requires g c =
    let i = c.self.inside in
    let k = c.self.invariant in
    let within : c.args.row < length i.states.items = omega (arith, c.requires, k.paired, filed-count i.goals.keys i.states.items k.paired k.filed, ap length c.self.view_is) in
    let at = slice_get_read i.states.items (length i.states.items) c.args.row c.index.result.now refl within c.index.ensures in
    filed-is c.index.result.now (k.filed c.args.row c.index.result.now at) c.in_default.not-Filed

pub returns : goal.returns
returns g c =
    let i = c.self.inside in
    let k = c.self.invariant in
    let within : c.args.row < length i.states.items = omega (arith, c.requires, k.paired, filed-count i.goals.keys i.states.items k.paired k.filed, ap length c.self.view_is) in
    let at = slice_get_read i.states.items (length i.states.items) c.args.row c.index.result.now refl within c.index.ensures in
    subst (λ v. option_map (λ (r : Row g.row.G.Denot). r.answer) (slice_get v c.args.row) ≡ Some c.in-Filed.answer) c.self.view_is (filed-answer i.goals.keys i.states.items c.args.row c.in-Filed.answer k.paired k.filed (at ∙ ap Some c.in-Filed.is))
