use Rattle.std.proofs.Common.{◌<◌, List, length, map, sym, subst, ap, ◌∙◌, arith}
use Rattle.std.proofs.lemmas.List.{length-map}
use Rattle.cls_path.specs.Paths.{TypePath, listed}
use Rattle.cls_library.specs.Families.{Finder, IsNext}
use Rattle.cls_library.specs.Leads.{path_of}
use Rattle.cls_library.proofs.Passing.{first-next}
use Rattle.cls_library.proofs.Viewing.{lead-at, leads-moved, paths-moved}
use Rattle.cls_library.proofs.finder.Finder.next.Goals as goal
use Rattle.cls_library.proofs.finder.Finder.next.Goals.{After-next}

some : (c : After-next) → 0 < length c.self.inside.leads.items
some c =
    let leads = c.self.inside.leads.items in
    let goal : 0 < length (map path_of leads) = subst (λ (f : Finder). 0 < length f.goal) (sym c.self.view_is) c.requires in
    let size = length-map leads path_of in
    omega arith

pub invariant_of-self : goal.invariant_of-self
invariant_of-self c =
    let l = c.self.inside.lib.now in
    let leads = c.self.inside.leads.items in
    let first = c.index_mut-first.result.now in
    leads-moved leads 0 first c.next.new.self c.next.ensures.same l (lead-at l leads 0 first c.self.invariant (some (goal.at.invariant_of-self c).After-next) c.index_mut-first.ensures.value) c.self.invariant

pub returns-clause-next : goal.returns-clause-next
returns-clause-next c =
    let inside = c.self.inside in
    subst (λ (f : Finder). IsNext f.library (listed f.goal) c.args.from c.next.result) c.self.view_is
    (first-next inside.lib.now inside.leads.items c.index_mut-first.result.now c.args.from c.next.result c.self.invariant (some (goal.at.returns-clause-next c).After-next) c.index_mut-first.ensures.value c.next.ensures.next)

pub returns-clause-same : goal.returns-clause-same
returns-clause-same c =
    let inside = c.self.inside in
    let first = c.index_mut-first.result.now in
    ap (λ (goal : List TypePath). record { library = inside.lib.now; goal = goal }) (paths-moved inside.leads.items 0 first c.next.new.self c.next.ensures.same c.index_mut-first.ensures.value) ∙ c.self.view_is
