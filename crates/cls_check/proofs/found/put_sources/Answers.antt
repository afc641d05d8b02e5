use Rattle.std.proofs.Common.{◌≡◌, ◌≤◌, ℕ, length, sym, subst, arith}
use Rattle.cls_base.proofs.Lists.{Contains-at, Contains-map}
use Rattle.cls_path.specs.Paths.{TypePath}
use Rattle.cls_library.specs.Arrows.{MultiArrow}
use Rattle.cls_check.specs.Deciding.{IsLeading, SomeAbove, arrow_of, source_of, sources_of}
use Rattle.cls_check.specs.Found.{Adds, HasOne}
use Rattle.cls_check.specs.Places.{arrows_in}
use Rattle.cls_check.proofs.FoundLaws.{adds-alike, adds-begin, adds-more, sources-lead}
use Rattle.cls_check.proofs.Keeping.{arrow_got}
use Rattle.cls_check.proofs.found.put_sources.Goals as goal

pub put_source-requires-clause-source : goal.put_source-requires-clause-source
put_source-requires-clause-source c =
    let a = c.get.result in
    c.requires.sources (source_of a c.args.at)
    (Contains-map (λ (b : MultiArrow). source_of b c.args.at) c.args.arrows.now a (Contains-at c.args.arrows.now c.loop-i.i a c.get.ensures))

pub loop-i-init : goal.loop-i-init
loop-i-init c = adds-begin (arrows_in c.args.lib.now c.args.place) (λ k p. SomeAbove c.args.lib.now (source_of (arrow_of c.args.arrows.now k) c.args.at) p) c.args.positions.now.items

pub loop-i-preserved : goal.loop-i-preserved
loop-i-preserved c =
    let l = c.args.lib.now in
    let arrows = arrows_in l c.args.place in
    let i = c.loop-i.i in
    let leads : ℕ → TypePath → Type 0 = λ k p. SomeAbove l (source_of (arrow_of c.args.arrows.now k) c.args.at) p in
    let here : arrow_of c.args.arrows.now i ≡ c.get.result = arrow_got c.args.arrows.now i c.get.result c.get.ensures in
    adds-more arrows leads i c.args.positions.now.items c.loop-i.positions.items c.put_source.new.positions.items c.loop-i.invariant
    (subst (λ (a : MultiArrow). Adds arrows (λ p. SomeAbove l (source_of a c.args.at) p) c.loop-i.positions.items c.put_source.new.positions.items) (sym here) (c.in_ok-put_source.ensures c.if-not-branch.false))

pub returns : goal.returns
returns c = λ _.
    let l = c.args.lib.now in
    let t : c.len-i-end.result ≤ c.loop-i.i = c.loop-i-test.false in
    let u : c.loop-i.i ≤ c.len-i-end.result = c.loop-i.auto.i-end in
    let n : c.len-i-end.result ≡ length c.args.arrows.now = c.len-i-end.ensures in
    let e : c.loop-i.i ≡ length c.args.arrows.now = omega arith in
    adds-alike (arrows_in l c.args.place) (HasOne (λ k p. SomeAbove l (source_of (arrow_of c.args.arrows.now k) c.args.at) p) c.loop-i.i) (IsLeading l (sources_of c.args.arrows.now c.args.at)) c.args.positions.now.items c.loop-i.positions.items
    (sources-lead l c.args.arrows.now c.args.at c.loop-i.i e) c.loop-i.invariant
