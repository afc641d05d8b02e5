use Rattle.std.proofs.Common.{ℕ, List, get_or, map, sym, subst}
use Rattle.cls_walk.specs.FrameBegins.{aim_of, heads_in, AreTotals, IsBegunBy}
use Rattle.cls_walk.specs.FrameColumns.{head_of, Grows}
use Rattle.cls_walk.specs.declared.aims.Aim.{Aim}
use Rattle.cls_walk.specs.declared.rules.Head.{Head}
use Rattle.cls_walk.proofs.FrameBegins.{begun-aim, begun-whole}
use Rattle.cls_walk.proofs.begin.begin_at.Goals as goal

pub loop-aim-preserved : goal.loop-aim-preserved
loop-aim-preserved c = λ own s.
    let rules = c.args.guide.rules.now in
    let level = c.args.level.now in
    let i = c.loop-aim.aim-index in
    let none : Aim = record { node = 0; behind = 0 } in
    let a = get_or level i none in
    let P : List Head → Type 0 = λ hs. AreTotals own hs c.column-sizes.result.now in
    let Q : List ℕ → Type 0 = λ ns. AreTotals own (heads_in rules a.node) ns in
    let t = subst P (sym c.heads_of-heads.ensures) (subst Q (sym c.column-sizes.ensures) (s a.node)) in
    let R : List Head → Type 0 = λ hs. Grows (IsBegunBy own (aim_of a) c.args.component c.args.count c.args.size (map head_of hs)) c.loop-aim.places.items c.begin_by.new.places.items in
    begun-aim own rules c.args.component c.args.count c.args.size level i none c.args.places.now.items c.loop-aim.places.items c.begin_by.new.places.items c.loop-aim-test.true (c.loop-aim.invariant own s)
    (subst R c.heads_of-heads.ensures (c.in_ok-begin_by.ensures own t))

pub returns : goal.returns
returns c = λ own s.
    begun-whole own c.args.guide.rules.now c.args.component c.args.count c.args.size c.args.level.now c.loop-aim.aim-index c.args.places.now.items c.loop-aim.places.items c.loop-aim-test.false (c.loop-aim.invariant own s)
