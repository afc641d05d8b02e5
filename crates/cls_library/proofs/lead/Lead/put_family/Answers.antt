use Rattle.std.proofs.Common.{[], sym}
use Rattle.std.proofs.lemmas.List.{append-nil}
use Rattle.cls_library.proofs.Leading.{kept-entries, entry-for, ends-alike, none-at}
use Rattle.cls_library.proofs.lead.Lead.put_family.Goals as goal

pub put_entry-requires-clause-entry : goal.put_entry-requires-clause-entry
put_entry-requires-clause-entry c =
    let l = c.args.lib.now in
    let lead = c.args.self.now in
    let entries = c.in-Some.entries in
    let kept = kept-entries l lead entries c.in-Some.is c.requires.lead in
    entry-for l lead.path.now lead.sought c.requires.lead.sought kept.0 entries.now kept.1 c.in-Some-entry_at.entry.now (c.in-Some-entry_at.ensures).0

pub put_entry-requires-clause-ends : goal.put_entry-requires-clause-ends
put_entry-requires-clause-ends c =
    let l = c.args.lib.now in
    let lead = c.args.self.now in
    let entries = c.in-Some.entries in
    let kept = kept-entries l lead entries c.in-Some.is c.requires.lead in
    ends-alike l lead.path.now lead.sought c.requires.lead.sought kept.0 entries.now kept.1 c.in-Some-entry_at.entry.now.place

pub returns-in-None-clause-family : goal.returns-in-None-clause-family
returns-in-None-clause-family c =
    let l = c.args.lib.now in
    let lead = c.args.self.now in
    let entries = c.in-Some.entries in
    let kept = kept-entries l lead entries c.in-Some.is c.requires.lead in (
      [],
      sym (append-nil c.args.positions.now.items),
      none-at l lead.path.now lead.sought c.requires.lead.sought kept.0 entries.now kept.1 c.args.place c.in-None.ensures,
    )
