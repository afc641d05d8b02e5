use Rattle.std.proofs.Common.{◌≡◌, None, Some, sym, ap, ◌∙◌}
use Rattle.std.specs.Prelude.{slice_get}
use Rattle.std.proofs.lemmas.Option.{slice_get-get_or}
use Rattle.cls_path.specs.Paths.{more}
use Rattle.cls_library.specs.declared.index.Entry.{Entry}
use Rattle.cls_library.specs.Families.{IsNext}
use Rattle.cls_library.proofs.Leading.{kept-entries, next-none, next-some}
use Rattle.cls_library.proofs.lead.Lead.next.Goals as goal

pub returns-in_err-get-in-Some-clause-next : goal.returns-in_err-get-in-Some-clause-next
returns-in_err-get-in-Some-clause-next c = λ q rest sought.
    let l = c.args.lib.now in
    let lead = c.args.self.now in
    let kept = kept-entries l lead c.in-Some.entries c.in-Some.is c.requires in
    let none : IsNext l (more q rest) c.args.from None = next-none l q lead.sought sought kept.0 c.in-Some.entries.now kept.1 c.args.from c.first_from-self.result c.first_from-self.ensures rest c.in_err-get-in-Some.ensures.lookup.3 in
    rw c.from_residual.ensures none

pub returns-in_ok-get-in-Some-clause-next : goal.returns-in_ok-get-in-Some-clause-next
returns-in_ok-get-in-Some-clause-next c = λ q rest sought.
    let l = c.args.lib.now in
    let lead = c.args.self.now in
    let entries = c.in-Some.entries.now in
    let t : Entry = c.in_ok-get-in-Some.field-0.now in
    let kept = kept-entries l lead c.in-Some.entries c.in-Some.is c.requires in
    let found = c.in_ok-get-in-Some.ensures.lookup.3 in
    let at : slice_get entries c.first_from-self.result ≡ Some t = slice_get-get_or entries c.first_from-self.result t found.0 ∙ ap (λ (x : Entry). Some x) (sym (found.1 t)) in
    next-some l q lead.sought sought kept.0 entries kept.1 c.args.from c.first_from-self.result c.first_from-self.ensures rest t at
