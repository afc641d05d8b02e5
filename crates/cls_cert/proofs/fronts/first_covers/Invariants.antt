use Rattle.cls_base.specs.Limits.{max_covers}
use Rattle.cls_cover.specs.Fronts.{HasCovers}
use Rattle.cls_cert.proofs.fronts.first_covers.Given as goal

abbrev pub invariant-loop-front : goal.invariant-loop-front
invariant-loop-front l = HasCovers l.families max_covers l.front l.grown
