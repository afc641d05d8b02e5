use Rattle.std.proofs.Common.{IfSome, subst, arith}
use Rattle.cls_base.specs.Limits.{max_covers}
use Rattle.cls_cover.specs.Fronts.{HasCovers}
use Rattle.cls_cert.proofs.fronts.grown_with.Goals as goal

pub one_more-requires-clause-before : goal.one_more-requires-clause-before
one_more-requires-clause-before c = subst (λ grown. IfSome grown (λ g. HasCovers c.args.families.now max_covers c.args.front g)) c.in-Some.is c.requires.grown

pub first_covers-requires-clause-within : goal.first_covers-requires-clause-within
first_covers-requires-clause-within c = (let more = c.requires.more in omega arith)
