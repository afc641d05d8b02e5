use Rattle.std.proofs.Common.{◌≡◌, ◌∙◌, ℕ, subst, arith}
use Rattle.cls_core.specs.Machine.{begun}
use Rattle.cls_callers.specs.Known.{known_answer}
use Rattle.cls_callers.proofs.Picked.{IsPicking, picking-begun, picking-next, picked-all, picked-canonical}
use Rattle.cls_callers.proofs.picking.pick.Goals as goal

pub loop-row-init : goal.loop-row-init
loop-row-init g c =
    let eq = g.G.PartialEq.eq in
    let answer = known_answer eq c.args.known.now in
    let start = c.args.start.now in
    picking-begun eq g.met.G.Key.exact g.met.G.Eq.laws.refl answer start c.in_ok-core.core
    (subst (λ (x : g.row.G.Denot). c.in_ok-core.core.rows ≡ begun x) c.in_ok-copy.ensures.same c.in_ok-core.ensures.rows)
    c.in_ok-core.ensures.history

pub work_off-requires : goal.work_off-requires
work_off-requires g c = λ l. c.loop-row.invariant.free_rest c.loop-row.row (omega arith) l

pub loop-row-preserved : goal.loop-row-preserved
loop-row-preserved g c =
    let eq = g.G.PartialEq.eq in
    let answer = known_answer eq c.args.known.now in
    picking-next eq g.met.G.Key.exact g.met.G.Eq.laws.refl answer c.args.start.now c.loop-row.row c.loop-row.core c.work_off.new.core
    c.loop-row.invariant c.in_ok-work_off.ensures.done c.in_ok-work_off.ensures.past

pub unreachable-requires : goal.unreachable-requires
unreachable-requires g c =
    let eq = g.G.PartialEq.eq in
    let answer = known_answer eq c.args.known.now in
    let start = c.args.start.now in
    let n = c.count-row-end.result in
    let whole : c.loop-row.row ≡ n = omega (arith, c.loop-row-test.false, c.loop-row.auto.row-end) in
    let picking = subst (λ (k : ℕ). IsPicking eq answer start k c.loop-row.core) (whole ∙ c.count-row-end.ensures) c.loop-row.invariant in
    c.in-Err.ensures.unfinished.1 (picked-all eq g.met.G.Key.exact g.met.G.Eq.laws.refl answer start _ c.requires c.loop-row.core picking)

pub returns : goal.returns
returns g c =
    let eq = g.G.PartialEq.eq in
    let answer = known_answer eq c.args.known.now in
    let start = c.args.start.now in
    let n = c.count-row-end.result in
    let whole : c.loop-row.row ≡ n = omega (arith, c.loop-row-test.false, c.loop-row.auto.row-end) in
    let picking = subst (λ (k : ℕ). IsPicking eq answer start k c.loop-row.core) (whole ∙ c.count-row-end.ensures) c.loop-row.invariant in
    let f = c.in-Ok.ensures.finished in
    picked-canonical eq g.met.G.Key.exact g.met.G.Eq.laws.refl answer start _ c.requires c.loop-row.core c.in-Ok.finished.rows picking f.0 f.1
