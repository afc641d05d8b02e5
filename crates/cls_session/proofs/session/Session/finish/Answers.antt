use Rattle.std.proofs.Common.{◌≡◌, ℕ, sym, ◌∙◌, ap}
use Rattle.std.specs.Prelude.{None, codes}
use Rattle.cls_session.specs.SessionStates.{SessionState}
use Rattle.cls_session.specs.Transcripts.{refusal}
use Rattle.cls_session.proofs.Opening.{none_of}
use Rattle.cls_session.proofs.SessionStates.{Ending-responder, Ending-opening}
use Rattle.cls_session.proofs.session.Session.finish.Goals as goal

pub returns-in-Some : goal.returns-in-Some
returns-in-Some c = λ o lines written stands.
    Ending-responder o lines written c.args.self.now _ c.in-Some.responder (sym (ap (λ (s : SessionState). s.responder) c.self.view_is) ∙ c.in-Some.is) c.in_ok-finish.ensures stands

pub returns : goal.returns
returns c = λ o lines written stands.
    let none : c.args.self.now.responder ≡ None = sym (ap (λ (s : SessionState). s.responder) c.self.view_is) ∙ none_of c.self.inside.responder c.in_default.not-Some in
    let lines_are : c.lines.result ≡ c.args.self.now.reader.lines = c.lines.ensures ∙ ap (λ (s : SessionState). s.reader.lines) c.self.view_is in
    Ending-opening o lines written c.args.self.now none _ (c.in_ok-refused.ensures ∙ ap (λ (n : ℕ). refusal (n, codes "no-end")) lines_are) stands
