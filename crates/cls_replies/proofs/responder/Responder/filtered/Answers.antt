use Rattle.std.proofs.Common.{◌≡◌, ◌∙◌, refl, subst}
use Rattle.std.specs.Prelude.{IfOk}
use Rattle.cls_query.specs.Queries.{filtered}
use Rattle.cls_query.specs.ReadQueries.{listing_of}
use Rattle.cls_replies.specs.Answering as answering
use Rattle.cls_replies.specs.Printing.{left_of}
use Rattle.cls_replies.specs.Responder.{Responder, responder_of}
use Rattle.cls_replies.specs.Steps.{held_lines, IsFaultLine}
use Rattle.cls_replies.proofs.Faulting.{fault_answers}
use Rattle.cls_replies.proofs.responder.Responder.filtered.Goals as goal
use Rattle.cls_replies.proofs.responder.Responder.filtered.Goals.{in-Ok, in-Err}

pub returns-clause-answers : goal.returns-clause-answers
returns-clause-answers g c =
    let s = c.args.self.now in
    elim c.match-filtered_page.branch [
      | in-Ok w ↦
          rw w.result-is (answering.Answers.replied w.in-Ok.ensures.silent (record { terms = w.in-Ok.page.terms; more = w.in-Ok.page.more; page = w.in-Ok.ensures.page; written = w.terms_printing.ensures.text s }) refl)
      | in-Err w ↦
          let i = c.self.inside in
          let q = filtered c.args.filter.0 (listing_of c.args.listing.now) in
          let same : responder_of i.names i.variables i.components i.kinds i.templates i.filter_names i.filters i.engine (held_lines i.held) ≡ s = c.self.view_is ∙ c.filtered_page.ensures.same in
          rw w.result-is (fault_answers (left_of s) w.fault_printing.result s q w.in-Err.fault w.in-Err.ensures.fault
          (subst (λ (z : Responder). IfOk w.fault_printing.result (λ p. IsFaultLine z.names w.in-Err.fault (left_of s p))) same (w.fault_printing.ensures.text s)))
    ]

pub returns-clause-printable : goal.returns-clause-printable
returns-clause-printable g c =
    elim c.match-filtered_page.branch [
      | in-Ok w ↦
          rw w.result-is (w.terms_printing.ensures.printable c.args.self.now)
      | in-Err w ↦
          rw w.result-is (w.fault_printing.ensures.printable c.args.self.now)
    ]
