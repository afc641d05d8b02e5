use Rattle.cls_cover.proofs.SetBits.{in_alone}
use Rattle.cls_cover.proofs.sets.alone.Goals as goal

pub returns : goal.returns
returns c = λ y. in_alone c.args.x y c.requires
