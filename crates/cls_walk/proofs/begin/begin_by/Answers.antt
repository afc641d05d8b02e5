use Rattle.std.proofs.Common.{◌∙◌, arith}
use Rattle.cls_walk.specs.FrameBegins.{aim_of}
use Rattle.cls_walk.proofs.FrameBegins.{begun-start, begun-more, begun-all}
use Rattle.cls_walk.proofs.begin.begin_by.Goals as goal

pub loop-index-init : goal.loop-index-init
loop-index-init c = λ own t. begun-start own (aim_of c.args.aim) c.args.component c.args.count c.args.size c.args.heads.now c.args.span.first c.args.places.now.items

pub loop-index-preserved : goal.loop-index-preserved
loop-index-preserved c = λ own t.
    begun-more own (aim_of c.args.aim) c.args.component c.args.count c.args.size c.args.heads.now c.args.span.first c.loop-index.index c.args.places.now.items c.loop-index.places.items c.begin_with.new.places.items c.loop-index.auto.index (c.loop-index.invariant own t) (c.in_ok-begin_with.ensures own (c.number_in-total.ensures ∙ t c.loop-index.index (let l = c.loop-index-test.true in let w = c.requires.within in omega (arith, l, w))))

pub returns : goal.returns
returns c = λ own t.
    begun-all own (aim_of c.args.aim) c.args.component c.args.count c.args.size c.args.heads.now c.args.span c.loop-index.index c.args.places.now.items c.loop-index.places.items c.requires.within c.requires.covers c.loop-index-test.false (c.loop-index.auto.index-end c.requires.rises) (c.loop-index.invariant own t)
