use Rattle.std.proofs.Common.{Option, sym, subst}
use Rattle.std.specs.Prelude.{IsSomeAnd, OnOk}
use Rattle.cls_path.specs.Paths.{TypePath}
use Rattle.cls_library.specs.Leads.{PutsFamily}
use Rattle.cls_library.specs.Libraries.{variances_in}
use Rattle.cls_library.proofs.Viewing.{lead-at, path-at, suits-lead, leads-moved, paths-moved}
use Rattle.cls_library.proofs.finder.put_one.Goals as goal

pub put_family-requires-clause-suits : goal.put_family-requires-clause-suits
put_family-requires-clause-suits c = suits-lead (variances_in c.args.lib.now.taxonomy) c.args.leads.now.items c.args.i c.index_mut-lead.result.now c.requires.suits c.requires.stands c.index_mut-lead.ensures.value

pub returns-clause-family : goal.returns-clause-family
returns-clause-family c =
    let path = path-at c.args.leads.now.items c.args.i c.index_mut-lead.result.now c.requires.stands c.index_mut-lead.ensures.value in
    subst (λ (o : Option TypePath). OnOk c.put_family.result (IsSomeAnd o (λ q. PutsFamily c.args.lib.now q c.args.place c.args.positions.now.items c.put_family.new.positions.items)))
    (sym path) c.put_family.ensures.family

pub returns-clause-leads : goal.returns-clause-leads
returns-clause-leads c =
    let lead = c.index_mut-lead.result.now in
    leads-moved c.args.leads.now.items c.args.i lead c.put_family.new.self c.put_family.ensures.same c.args.lib.now
    (lead-at c.args.lib.now c.args.leads.now.items c.args.i lead c.requires.leads c.requires.stands c.index_mut-lead.ensures.value) c.requires.leads

pub returns-clause-paths : goal.returns-clause-paths
returns-clause-paths c = paths-moved c.args.leads.now.items c.args.i c.index_mut-lead.result.now c.put_family.new.self c.put_family.ensures.same c.index_mut-lead.ensures.value
