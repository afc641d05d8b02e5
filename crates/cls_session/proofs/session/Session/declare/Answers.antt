use Rattle.std.proofs.Common.{◌≡◌, refl, sym, ◌∙◌, ap, subst}
use Rattle.std.specs.Prelude.{None, IfErr, OnOk}
use Rattle.cls_repo.specs.FaultWords.{IsSaid}
use Rattle.cls_session.specs.Sessions.{Declares, IsFaultAt}
use Rattle.cls_session.specs.SessionStates.{SessionState}
use Rattle.cls_session.proofs.Opening.{goes_by, opens_on, closing_on}
use Rattle.cls_session.proofs.session.Session.declare.Goals as goal

pub returns-then-not-branch-clause-declared : goal.returns-then-not-branch-clause-declared
returns-then-not-branch-clause-declared c =
    let i = c.self.inside in
    let old : SessionState = record { options = i.options; reader = i.reader; responder = i.responder } in
    let new : SessionState = record { options = i.options; reader = c.feed.new.self; responder = i.responder } in
    let none : i.responder ≡ None = ap (λ (s : SessionState). s.responder) c.self.view_is ∙ c.requires.reading in
    subst (λ (s : SessionState). Declares s c.args.line.now new) c.self.view_is
    (goes_by old new c.args.line.now c.feed.new.self c.in_ok-feed.ensures.taken (sym c.in_ok-feed.ensures.ended ∙ c.if-not-branch.true) none refl)

pub returns-clause-declared : goal.returns-clause-declared
returns-clause-declared c =
    let i = c.self.inside in
    let old : SessionState = record { options = i.options; reader = i.reader; responder = i.responder } in
    let new : SessionState = record { options = i.options; reader = c.open.new.reader; responder = c.open.new.responder } in
    subst (λ (s : SessionState). OnOk c.open.result (Declares s c.args.line.now new)) c.self.view_is
    (opens_on c.open.result old new c.args.line.now c.feed.new.self c.open.new.reader c.open.new.responder c.open.ensures.silent c.open.ensures.serves
    c.in_ok-feed.ensures.taken (sym c.in_ok-feed.ensures.ended ∙ c.if-not-branch.false) refl)

pub returns-clause-fault : goal.returns-clause-fault
returns-clause-fault c =
    let i = c.self.inside in
    let old : SessionState = record { options = i.options; reader = i.reader; responder = i.responder } in
    subst (λ (s : SessionState). IfErr c.open.result (IsSaid (IsFaultAt s c.args.line.now))) c.self.view_is
    (closing_on c.open.result old c.args.line.now c.feed.new.self c.in_ok-feed.ensures.taken (sym c.in_ok-feed.ensures.ended ∙ c.if-not-branch.false) c.open.ensures.fault)
