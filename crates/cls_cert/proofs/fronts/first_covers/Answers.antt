use Rattle.std.proofs.Common.{ℕ, ◌≡◌, subst, arith}
use Rattle.cls_base.specs.Limits.{max_covers}
use Rattle.cls_cover.specs.Fronts.{HasCovers}
use Rattle.cls_cert.proofs.fronts.first_covers.Goals as goal

pub loop-front-init : goal.loop-front-init
loop-front-init c = c.in_ok-grown.ensures max_covers (omega arith)

pub one_more-requires-clause-more : goal.one_more-requires-clause-more
one_more-requires-clause-more c = (let here = c.loop-front-test.true in let within = c.requires.within in omega arith)

pub loop-front-preserved : goal.loop-front-preserved
loop-front-preserved c = c.in_ok-grown-2.ensures

pub returns : goal.returns
returns c =
    let all : c.loop-front.front ≡ c.args.count = (let past = c.loop-front-test.false in omega arith) in
    subst (λ (k : ℕ). HasCovers c.args.families.now max_covers k c.loop-front.grown) all c.loop-front.invariant
