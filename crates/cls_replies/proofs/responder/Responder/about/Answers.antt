use Rattle.std.proofs.Common.{List, ℕ}
use Rattle.cls_base.specs.Ty.{type_of}
use Rattle.cls_query.specs.declared.query.Query.TheVariants.{About}
use Rattle.cls_replies.specs.Answering.{Answers}
use Rattle.cls_replies.proofs.Portions.{printing_as}
use Rattle.cls_replies.proofs.responder.Responder.about.Goals as goal

pub returns-in-Inhabit-clause-answers : goal.returns-in-Inhabit-clause-answers
returns-in-Inhabit-clause-answers g c =
    let s = c.args.self.now in
    printing_as c.inhabit.result c.text_printing.result s (λ (t : List ℕ). Answers s (About c.args.asks (type_of c.args.ty.now)) t s) c.text_printing.ensures.text (rw c.in-Inhabit.is c.inhabit.ensures.answers)
