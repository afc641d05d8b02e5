use Rattle.std.proofs.Common.{subst, sym}
use Rattle.cls_engine.specs.Closing.{IsKnown}
use Rattle.cls_engine.specs.Engines.{EngineSeen}
use Rattle.cls_engine.specs.Goals.{Goal}
use Rattle.cls_engine.proofs.Keeping.{more-known}
use Rattle.cls_engine.proofs.engine.Engine.keep_recent.Goals as goal

pub invariant_of-self : goal.invariant_of-self
invariant_of-self c =
    let i = c.self.invariant in
    let new = subst (λ (e : EngineSeen). (start : Goal) × IsKnown e.library e.options start c.args.grammar) (sym c.self.view_is) c.requires in
    record {
      in_range = i.in_range;
      costly = i.costly;
      kept = i.kept;
      known = more-known c.self.inside.library c.self.inside.options c.self.inside.recents.kept.items i.known c.args.grammar new c.put.new.self.kept.items c.put.ensures;
      decided = i.decided;
    }
