use Rattle.std.proofs.Common.{ℕ, ◌≡◌, ◌≤◌, length, [], List, sym, ap, subst, arith}
use Rattle.cls_base.proofs.Lists.{take_whole}
use Rattle.cls_path.specs.Paths.{TypePath}
use Rattle.cls_library.specs.Families.{AreFamilies}
use Rattle.cls_library.specs.Libraries.{arrows_at}
use Rattle.cls_expand.proofs.Sources.{suits_at, families_step}
use Rattle.cls_expand.proofs.expander.families_of.Goals as goal

pub loop-path-init : goal.loop-path-init
loop-path-init c = subst (λ (fs : List (List ℕ)). AreFamilies c.args.lib.now (arrows_at c.args.lib.now c.args.x c.args.n) [] fs) (sym c.in_ok-families.ensures.items) tt

pub family-requires-clause-suits : goal.family-requires-clause-suits
family-requires-clause-suits c = suits_at c.args.lib.now c.args.goal.now c.paths-path-items.result.now c.loop-path.path-index c.path-item.result c.paths-path-items.ensures c.loop-path-test.true c.path-item.is c.requires.ready.normal.suits

pub loop-path-preserved : goal.loop-path-preserved
loop-path-preserved c = families_step c.args.lib.now (arrows_at c.args.lib.now c.args.x c.args.n) c.args.goal.now c.paths-path-items.result.now c.loop-path.path-index c.path-item.result c.loop-path.families.items c.push.new.self.items c.in_ok-family.field-0 c.paths-path-items.ensures c.loop-path-test.true c.path-item.is c.in_ok-family.ensures c.in_ok-push.ensures.items c.loop-path.invariant

pub returns : goal.returns
returns c =
    let e : length c.paths-path-items.result.now ≡ length c.args.goal.now = ap (λ (ps : List TypePath). length ps) c.paths-path-items.ensures in
    let t : length c.paths-path-items.result.now ≤ c.loop-path.path-index = c.loop-path-test.false in
    subst (λ (ps : List TypePath). AreFamilies c.args.lib.now (arrows_at c.args.lib.now c.args.x c.args.n) ps c.loop-path.families.items) (take_whole c.args.goal.now c.loop-path.path-index (omega arith)) c.loop-path.invariant
