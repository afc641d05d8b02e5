use Rattle.std.proofs.Common.{◌≡◌, ◌∷◌, ◌+◌, ◌≤◌, List, ℕ, true, false, length, refl, ap, arith, sym, subst, ◌∙◌}
use Rattle.std.specs.Prelude.{IfOk, string_bytes}
use Rattle.std.proofs.lemmas.Result.{IfOk-weaker, on_ok_weaker}
use Rattle.cls_replies.specs.LineKinds.{IsQed}
use Rattle.cls_replies.specs.Lines.{Goes}
use Rattle.cls_replies.specs.Printing.{left_of}
use Rattle.cls_replies.specs.Responder.{Responder, responder_of, holding}
use Rattle.cls_replies.specs.Steps.{held_lines, Concludes}
use Rattle.cls_replies.proofs.Holding.{ends_by, holds_on}
use Rattle.cls_replies.proofs.Portions.{printing_as, printing_ok}
use Rattle.cls_replies.proofs.responder.Responder.feed.Goals as goal

pub returns-then-ends-clause-goes : goal.returns-then-ends-clause-goes
returns-then-ends-clause-goes g c =
    let i = c.self.inside in
    let s = responder_of i.names i.variables i.components i.kinds i.templates i.filter_names i.filters i.engine (held_lines i.held) in
    let h = c.in-Some.held in
    let m = holding s (h.line ∷ c.push.new.self) in
    let n = c.answer_held.new.self in
    let qed : IsQed c.args.line = c.in_ok-ends-in-Some.ensures.0 c.if-ends.true in
    subst (λ (z : Responder). IfOk c.text_printing.result (λ p. Goes z c.args.line (left_of n p) n)) c.self.view_is
    (printing_as c.answer_held.result c.text_printing.result n (λ (t : List ℕ). Goes s c.args.line t n) c.text_printing.ensures.text
    (IfOk-weaker c.answer_held.result (λ text. Concludes m m.held (string_bytes text) n) (λ text. Goes s c.args.line (string_bytes text) n)
    (λ text k. ends_by s m c.args.line h.line h.inside c.push.new.self (string_bytes text) (ap held_lines c.in-Some.is) c.in_ok-push-in-Some.ensures refl n qed k) c.answer_held.ensures.concludes))

pub returns-then-ends-clause-printable : goal.returns-then-ends-clause-printable
returns-then-ends-clause-printable g c = c.text_printing.ensures.printable c.answer_held.new.self

pub returns-then-ends-clause-counted : goal.returns-then-ends-clause-counted
returns-then-ends-clause-counted g c =
    printing_ok c.answer_held.result c.text_printing.result (length c.answer_held.new.self.held ≤ length c.args.self.now.held + 1) c.text_printing.ensures.text
    (on_ok_weaker c.answer_held.result (λ e. let none = ap length e in omega (arith, none)) c.answer_held.ensures.free)

false_true : false ≡ true → ⊥
false_true e = cc

pub returns-clause-goes : goal.returns-clause-goes
returns-clause-goes g c =
    let i = c.self.inside in
    let s = responder_of i.names i.variables i.components i.kinds i.templates i.filter_names i.filters i.engine (held_lines i.held) in
    let h = c.in-Some.held in
    let m = holding s (h.line ∷ c.push.new.self) in
    subst (λ (z : Responder). Goes z c.args.line (left_of m c.nothing.result) m) c.self.view_is
    (holds_on s m c.args.line h.line h.inside c.push.new.self (left_of m c.nothing.result) (ap held_lines c.in-Some.is) c.in_ok-push-in-Some.ensures refl
    (λ q. false_true (sym c.if-ends.false ∙ c.in_ok-ends-in-Some.ensures.1 q)) (c.nothing.ensures.text m))

pub returns-clause-printable : goal.returns-clause-printable
returns-clause-printable g c =
    let i = c.self.inside in
    let s = responder_of i.names i.variables i.components i.kinds i.templates i.filter_names i.filters i.engine (held_lines i.held) in
    c.nothing.ensures.printable (holding s (c.in-Some.held.line ∷ c.push.new.self))
