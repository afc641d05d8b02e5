use Rattle.cls_engine.proofs.Certifying.{known}
use Rattle.cls_engine.proofs.engine.Engine.take_back.Goals as goal

pub keep_recent-requires : goal.keep_recent-requires
keep_recent-requires c =
    let r = c.requires in
    let k = known c.args.self.now.library (rw c.library.ensures at c.count-count.ensures.library) c.args.self.now.options r.0 r.2 c.args.grammar r.1 in
    (k.goal, k.known)
