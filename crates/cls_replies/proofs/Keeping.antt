-- A query that leaves what answers it as it is.
use Rattle.std.proofs.Common.{◌≡◌, ap, subst, sym}
use Rattle.std.specs.Prelude.{Result, Ok, Err, IfOk, OnOk, OnErr}
use Rattle.cls_query.specs.Queries.{Query}
use Rattle.cls_replies.specs.declared.printing.Printing.{Printing}
use Rattle.cls_replies.specs.Answering.{Answers}
use Rattle.cls_replies.specs.Printing.{IsPrintable, left_of}
use Rattle.cls_replies.specs.Responder.{Responder}
use Rattle.cls_replies.specs.Steps.{IsAnswerTo}
use Rattle.cls_replies.proofs.Portions.{printing_any}

-- What holds in any case holds where there is no reply.
fault_any : {F : Type 0} (o : Result Printing F) (P : Type 0) → P → OnErr o P
fault_any (Ok p) P h = record {}
fault_any (Err f) P h = h

-- what is said of the reply to a query, of what answers queries after it, and of an error
pub kept : {F : Type 0} (o : Result Printing F) (s m : Responder) (q : Query) → m ≡ s → IfOk o (IsAnswerTo s q) → IfOk o (IsPrintable s)
    → IfOk o (λ p. Answers s q (left_of m p) m) × IfOk o (IsPrintable m) × OnOk o (m.held ≡ s.held) × OnErr o (m ≡ s)
kept o s m q same answered printable = (
  subst (λ (z : Responder). IfOk o (λ p. Answers s q (left_of z p) z)) (sym same) answered,
  subst (λ (z : Responder). IfOk o (IsPrintable z)) (sym same) printable,
  printing_any o (m.held ≡ s.held) (ap (λ (z : Responder). z.held) same),
  fault_any o (m ≡ s) same,
)
