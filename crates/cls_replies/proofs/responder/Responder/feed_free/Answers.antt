use Rattle.std.proofs.Common.{Some, refl, subst}
use Rattle.std.proofs.lemmas.Result.{IfOk-weaker}
use Rattle.cls_lexer.specs.Skipped.{IsSkipped}
use Rattle.cls_replies.specs.Answering.{Answered}
use Rattle.cls_replies.specs.Changing.{Changed}
use Rattle.cls_replies.specs.LineKinds.{IsSingle, Changes}
use Rattle.cls_replies.specs.Lines.{Goes}
use Rattle.cls_replies.specs.Lines as lines
use Rattle.cls_replies.specs.Printing.{left_of}
use Rattle.cls_replies.specs.Responder.{responder_of}
use Rattle.cls_replies.specs.Steps.{IsOfKind, held_lines}
use Rattle.cls_replies.proofs.responder.Responder.feed_free.Goals as goal

pub returns-in-Skipped-clause-goes : goal.returns-in-Skipped-clause-goes
returns-in-Skipped-clause-goes g c =
    let skipped : IsSkipped c.args.line = subst (IsOfKind c.args.line) c.in-Skipped.is c.in_ok-kind_of.ensures in
    lines.Goes.skips c.requires skipped (c.nothing.ensures.text c.args.self.now) refl

pub returns-in-Skipped-clause-printable : goal.returns-in-Skipped-clause-printable
returns-in-Skipped-clause-printable g c = c.nothing.ensures.printable c.args.self.now

pub returns-in_ok-into_owned-in-Opening-clause-printable : goal.returns-in_ok-into_owned-in-Opening-clause-printable
returns-in_ok-into_owned-in-Opening-clause-printable g c =
    let i = c.self.inside in
    let held = Some (record { line = c.in_ok-into_owned-in-Opening.field-0; inside = c.new.result }) in
    c.nothing-in-Opening.ensures.printable (responder_of i.names i.variables i.components i.kinds i.templates i.filter_names i.filters i.engine (held_lines held))

pub returns-in-Single-clause-goes : goal.returns-in-Single-clause-goes
returns-in-Single-clause-goes g c =
    let single : IsSingle c.args.line = subst (IsOfKind c.args.line) c.in-Single.is c.in_ok-kind_of.ensures in
    let new = c.ask.new.self in
    IfOk-weaker c.ask.result (λ p. Answered c.args.self.now c.args.line (left_of new p) new) (λ p. Goes c.args.self.now c.args.line (left_of new p) new)
    (λ p a. lines.Goes.asks c.requires single a) c.ask.ensures.answered

pub returns-in-Changing-clause-goes : goal.returns-in-Changing-clause-goes
returns-in-Changing-clause-goes g c =
    let changing : Changes c.args.line = subst (IsOfKind c.args.line) c.in-Changing.is c.in_ok-kind_of.ensures in
    let new = c.change.new.self in
    IfOk-weaker c.change.result (λ p. Changed c.args.self.now c.args.line (left_of new p) new) (λ p. Goes c.args.self.now c.args.line (left_of new p) new)
    (λ p a. lines.Goes.changes c.requires changing a) c.change.ensures.changed
