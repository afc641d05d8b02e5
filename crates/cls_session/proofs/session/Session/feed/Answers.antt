use Rattle.std.proofs.Common.{◌≡◌, refl, sym, ◌∙◌, ap, subst}
use Rattle.std.specs.Prelude.{None, Some}
use Rattle.cls_repo.specs.FaultWords.{IsSaid}
use Rattle.cls_session.specs.Sessions.{Declares, IsFaultAt}
use Rattle.cls_session.specs.SessionStates.{SessionState}
use Rattle.cls_session.proofs.Opening.{none_of, answers_declared, answers_fault}
use Rattle.cls_session.proofs.Portions.{nothing_left_by, nothing_printable}
use Rattle.cls_session.proofs.SessionStates.{Stands-goes}
use Rattle.cls_session.proofs.session.Session.feed.Goals as goal

pub returns-in-Some-clause-answered : goal.returns-in-Some-clause-answered
returns-in-Some-clause-answered g c = λ o lines written stands.
    let i = c.self.inside in
    let new : SessionState = record { options = i.options; reader = i.reader; responder = Some c.feed.new.self } in
    Stands-goes o lines written c.args.self.now c.args.line _ c.in-Some.responder c.feed.new.self new
    (sym (ap (λ (s : SessionState). s.responder) c.self.view_is) ∙ c.in-Some.is) c.in_ok-feed.ensures.goes (ap (λ (s : SessionState). s.options) c.self.view_is) refl stands

pub returns-in-Ok-clause-answered : goal.returns-in-Ok-clause-answered
returns-in-Ok-clause-answered g c =
    let none : c.args.self.now.responder ≡ None = sym (ap (λ (s : SessionState). s.responder) c.self.view_is) ∙ none_of c.self.inside.responder c.in_default.not-Some in
    answers_declared c.args.self.now c.declare.new.self c.args.line _ none
    (subst (λ (s : SessionState). Declares s c.args.line c.declare.new.self) c.self.view_is c.in-Ok.ensures.declared) (nothing_left_by c.declare.new.self.responder c.nothing.result c.nothing.ensures.text)

pub returns-in-Some-clause-printable : goal.returns-in-Some-clause-printable
returns-in-Some-clause-printable g c = c.in_ok-feed.ensures.printable

pub returns-in-Ok-clause-printable : goal.returns-in-Ok-clause-printable
returns-in-Ok-clause-printable g c = nothing_printable c.declare.new.self.responder c.nothing.result c.nothing.ensures.printable

pub returns-clause-answered : goal.returns-clause-answered
returns-clause-answered g c =
    let none : c.args.self.now.responder ≡ None = sym (ap (λ (s : SessionState). s.responder) c.self.view_is) ∙ none_of c.self.inside.responder c.in_default.not-Some in
    answers_fault c.args.self.now c.args.line _ c.in-Err.fault none
    (subst (λ (s : SessionState). IsSaid (IsFaultAt s c.args.line) c.in-Err.fault) c.self.view_is c.in-Err.ensures.fault) c.in_ok-refusal-in-Err.ensures
