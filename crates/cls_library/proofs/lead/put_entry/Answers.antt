use Rattle.std.proofs.Common.{◌≡◌, true, false, [], sym, ◌∙◌}
use Rattle.std.proofs.lemmas.List.{append-nil}
use Rattle.cls_library.proofs.Leading.{entry-place, family-silent}
use Rattle.cls_library.proofs.lead.put_entry.Goals as goal

differs : false ≡ true → ⊥
differs e = cc

pub put_whole-requires-clause-place : goal.put_whole-requires-clause-place
put_whole-requires-clause-place c = entry-place c.args.lib.now c.args.path.now c.args.entry.now c.requires.entry c.requires.ends

pub returns-else-leads : goal.returns-else-leads
returns-else-leads c = (
  [],
  sym (append-nil c.args.positions.now.items),
  family-silent c.args.lib.now c.args.path.now c.args.entry.now c.requires.entry c.requires.ends c.in-Some.position c.in-Some.is (λ le. differs (sym c.if-leads.false ∙ c.leads.ensures.1 le)),
)
