use Rattle.cls_path.proofs.Remains.{listed-append, listed-last}
use Rattle.cls_path.proofs.source.ArrowSource.copy_onto.Goals as goal

pub returns-in_ok-push-in-Name : goal.returns-in_ok-push-in-Name
returns-in_ok-push-in-Name c =
    rw (c.in_ok-push-in-Name.ensures.items, c.in-Name.is, c.atom.ensures) (listed-last _ _)

pub returns-in_ok-copy_behind-in-Paths : goal.returns-in_ok-copy_behind-in-Paths
returns-in_ok-copy_behind-in-Paths c =
    rw (c.in_ok-copy_behind-in-Paths.ensures, c.in-Paths.is, c.paths.ensures) (listed-append _ _)
