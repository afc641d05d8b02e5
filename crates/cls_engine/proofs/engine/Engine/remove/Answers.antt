use Rattle.std.proofs.Common.{ℕ, ◌<◌, List, length, sym, ap, ◌∙◌, subst}
use Rattle.std.specs.Prelude.{remove}
use Rattle.cls_library.specs.Libraries.{Library}
use Rattle.cls_live.specs.Parts.{PartsSeen}
use Rattle.cls_term.specs.Costs.{cost_of}
use Rattle.cls_engine.specs.Engines.{EngineSeen, seen_as}
use Rattle.cls_engine.proofs.Changed.{costs_less, engine_fresh}
use Rattle.cls_engine.proofs.engine.Engine.remove.Goals as goal

pub drop_component-requires-clause-library : goal.drop_component-requires-clause-library
drop_component-requires-clause-library c = c.self.invariant.kept

pub drop_component-requires-clause-declared : goal.drop_component-requires-clause-declared
drop_component-requires-clause-declared c =
    subst (λ (e : EngineSeen). c.args.x < length e.library.components) (sym c.self.view_is) c.requires

pub invariant_of-self : goal.invariant_of-self
invariant_of-self c =
    let i = c.self.inside in
    let costs = subst (λ (ns : List ℕ). (x : ℕ) → 0 < cost_of ns x) (sym c.remove_cost.ensures) (costs_less i.costs c.self.invariant.costly c.args.x) in
    engine_fresh (seen_as c.drop_component.new.library c.remove_cost.new.costs i.options) c.drop_component.new.self.library _ _
    c.self.invariant.in_range costs (sym c.drop_component.ensures.library) c.forget.ensures.recents c.forget.ensures.outcomes

-- the library without the component, and its cost out of the costs
pub returns : goal.returns
returns c =
    let i = c.self.inside in
    let without : Library → Library = λ l. record { taxonomy = l.taxonomy; components = remove l.components c.args.x } in
    let library = c.drop_component.ensures.library ∙ (ap (λ (p : PartsSeen). p.library) c.drop_component.ensures.entries ∙ ap without c.self.invariant.kept) in
    (λ j. seen_as (library j) (c.remove_cost.ensures j) i.options)
    ∙ ap (λ (e : EngineSeen). seen_as (without e.library) (remove e.costs c.args.x) e.options) c.self.view_is
