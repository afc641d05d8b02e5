use Rattle.std.proofs.Common.{◌≡◌, ◌++◌, ◌∙◌, [], sym, ap, refl, subst, string_bytes}
use Rattle.std.specs.Prelude.{Option, None, Some, IfOk}
use Rattle.cls_replies.specs.Responder.{Responder}
use Rattle.cls_session.specs.Sessions.{left_by, IsPrintableBy}
use Rattle.cls_session.specs.SessionStates.{SessionState}
use Rattle.cls_session.proofs.Opening.{none_of}
use Rattle.cls_session.proofs.session.Session.print.Goals as goal

pub print-requires : goal.print-requires
print-requires c =
    let e : c.args.self.now.responder ≡ Some c.in-Some.responder = sym (ap (λ (s : SessionState). s.responder) c.self.view_is) ∙ c.in-Some.is in
    subst (λ (o : Option Responder). IsPrintableBy o c.args.printing) e c.requires

pub returns-in-Some-clause-portion : goal.returns-in-Some-clause-portion
returns-in-Some-clause-portion c =
    let e : c.args.self.now.responder ≡ Some c.in-Some.responder = sym (ap (λ (s : SessionState). s.responder) c.self.view_is) ∙ c.in-Some.is in
    subst (λ (o : Option Responder). IfOk c.print.result (λ r. left_by o c.args.printing ≡ string_bytes r.0 ++ left_by o r.1)) (sym e) c.print.ensures.portion

pub returns-in-Some-clause-ended : goal.returns-in-Some-clause-ended
returns-in-Some-clause-ended c =
    let e : c.args.self.now.responder ≡ Some c.in-Some.responder = sym (ap (λ (s : SessionState). s.responder) c.self.view_is) ∙ c.in-Some.is in
    subst (λ (o : Option Responder). IfOk c.print.result (λ r. string_bytes r.0 ≡ [] → left_by o r.1 ≡ [])) (sym e) c.print.ensures.ended

pub returns-in-Some-clause-printable : goal.returns-in-Some-clause-printable
returns-in-Some-clause-printable c =
    let e : c.args.self.now.responder ≡ Some c.in-Some.responder = sym (ap (λ (s : SessionState). s.responder) c.self.view_is) ∙ c.in-Some.is in
    subst (λ (o : Option Responder). IfOk c.print.result (λ r. IsPrintableBy o r.1)) (sym e) c.print.ensures.printable

pub returns-clause-portion : goal.returns-clause-portion
returns-clause-portion c =
    let e : c.args.self.now.responder ≡ None = sym (ap (λ (s : SessionState). s.responder) c.self.view_is) ∙ none_of c.self.inside.responder c.in_default.not-Some in
    subst (λ (o : Option Responder). left_by o c.args.printing ≡ string_bytes c.new.result ++ left_by o c.args.printing) (sym e) (ap (λ (v : _). v ++ []) (sym c.new.ensures.bytes))

pub returns-clause-ended : goal.returns-clause-ended
returns-clause-ended c =
    let e : c.args.self.now.responder ≡ None = sym (ap (λ (s : SessionState). s.responder) c.self.view_is) ∙ none_of c.self.inside.responder c.in_default.not-Some in
    subst (λ (o : Option Responder). string_bytes c.new.result ≡ [] → left_by o c.args.printing ≡ []) (sym e) (λ none. refl)

pub returns-clause-printable : goal.returns-clause-printable
returns-clause-printable c = c.requires
