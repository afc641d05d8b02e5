use Rattle.std.proofs.Common.{rules, arith, ap, length, subst, ◌≡◌, Some, slice_get}
use Rattle.std.specs.Prelude.{option_map}
use Rattle.cls_core.specs.Rows.{Row}
use Rattle.cls_core.proofs.FiledRows.{filed-count, filed-goal}
use Rattle.cls_core.proofs.finished.Rows.goal.Goals as goal

pub unwrap-requires : goal.unwrap-requires
unwrap-requires g c =
    let i = c.self.inside in
    let k = c.self.invariant in
    c.get_index.ensures.found.1 (omega (arith, c.requires, k.paired, filed-count i.goals.keys i.states.items k.paired k.filed, ap length c.self.view_is))

pub returns : goal.returns
returns g c =
    let i = c.self.inside in
    let k = c.self.invariant in
    let at : slice_get i.goals.keys c.args.row ≡ Some c.unwrap.result.now = search rules in
    subst (λ v. option_map (λ (r : Row g.row.G.Denot). r.goal) (slice_get v c.args.row) ≡ Some c.unwrap.result.now) c.self.view_is (filed-goal i.goals.keys i.states.items c.args.row c.unwrap.result.now k.paired k.filed at)
