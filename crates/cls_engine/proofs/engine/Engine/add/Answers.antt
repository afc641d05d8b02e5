use Rattle.std.proofs.Common.{ℕ, ◌<◌, List, sym, subst}
use Rattle.cls_term.specs.Costs.{cost_of}
use Rattle.cls_engine.specs.Engines.{seen_as}
use Rattle.cls_engine.proofs.Changed.{costs_more, engine_fresh, engine_same}
use Rattle.cls_engine.proofs.engine.Engine.add.Goals as goal

pub put_last-requires : goal.put_last-requires
put_last-requires c = c.self.invariant.kept

-- a fault left the library and the costs as they were
pub invariant_of-self : goal.invariant_of-self
invariant_of-self c =
    let i = c.self.inside in
    let old = seen_as i.library i.costs i.options in
    engine_same old (seen_as c.put_last.new.library c.put_last.new.costs i.options) c.put_last.new.parts.library i.recents.kept.items i.outcomes.kept.items
    (λ j. seen_as (c.in_err-put_last.ensures.unchanged j) (c.in_err-put_last.ensures.costs_stay j) i.options) c.put_last.ensures.parts
    c.self.invariant.in_range c.self.invariant.costly c.self.invariant.known c.self.invariant.decided

pub invariant_of-self-2 : goal.invariant_of-self-2
invariant_of-self-2 c =
    let i = c.self.inside in
    let costs = subst (λ (ns : List ℕ). (x : ℕ) → 0 < cost_of ns x) (sym c.in_ok-put_last.ensures.costs) (costs_more i.costs c.self.invariant.costly) in
    engine_fresh (seen_as c.put_last.new.library c.put_last.new.costs i.options) c.put_last.new.parts.library _ _
    c.self.invariant.in_range costs c.put_last.ensures.parts c.forget.ensures.recents c.forget.ensures.outcomes
