use Rattle.std.proofs.Common.{◌≡◌, ◌<◌, length, sym, subst, arith}
use Rattle.std.specs.Prelude.{IfOk, codes, string_bytes}
use Rattle.std.proofs.lemmas.Result.{IfOk-weaker}
use Rattle.cls_query.specs.declared.change.Change.TheVariants.{Remove}
use Rattle.cls_replies.specs.Changing.{Makes}
use Rattle.cls_replies.specs.Responder.{Responder, responder_of}
use Rattle.cls_replies.specs.Steps.{held_lines}
use Rattle.cls_replies.specs.Texts.{reply_line}
use Rattle.cls_replies.proofs.Changing.{makes_dropped, responder_dropped}
use Rattle.cls_replies.proofs.responder.Responder.remove.Goals as goal

pub remove-requires : goal.remove-requires
remove-requires c =
    let there : c.args.component.0 < length c.self.inside.components = subst (λ (s : Responder). c.args.component.0 < length s.components) (sym c.self.view_is) c.requires in
    omega (arith, there, c.self.invariant.named)

pub remove_template-requires : goal.remove_template-requires
remove_template-requires c =
    let there : c.args.component.0 < length c.self.inside.components = subst (λ (s : Responder). c.args.component.0 < length s.components) (sym c.self.view_is) c.requires in
    omega (arith, there, c.self.invariant.named, c.self.invariant.written)

pub invariant_of-self : goal.invariant_of-self
invariant_of-self c =
    let i = c.self.inside in
    let s = responder_of i.names i.variables i.components i.kinds i.templates i.filter_names i.filters i.engine (held_lines i.held) in
    let there : c.args.component.0 < length i.components = subst (λ (z : Responder). c.args.component.0 < length z.components) (sym c.self.view_is) c.requires in
    responder_dropped s c.args.component.0 c.self.invariant there c.remove-2.new.self c.remove_template.new.templates c.remove-3.new.self c.remove.new.self
    c.remove-2.ensures.removed c.remove_template.ensures c.remove-3.ensures c.remove.ensures

pub returns-clause-makes : goal.returns-clause-makes
returns-clause-makes c =
    let i = c.self.inside in
    let s = responder_of i.names i.variables i.components i.kinds i.templates i.filter_names i.filters i.engine (held_lines i.held) in
    let n = responder_of i.names i.variables c.remove-2.new.self i.kinds c.remove_template.new.templates i.filter_names c.remove-3.new.self c.remove.new.self (held_lines i.held) in
    subst (λ (z : Responder). IfOk c.word_line.result (λ text. Makes z (Remove c.args.component.0) (string_bytes text) n)) c.self.view_is
    (IfOk-weaker c.word_line.result (λ text. string_bytes text ≡ reply_line (codes "dropped")) (λ text. Makes s (Remove c.args.component.0) (string_bytes text) n)
    (λ text e. makes_dropped s c.args.component.0 c.remove-2.new.self c.remove_template.new.templates c.remove-3.new.self c.remove.new.self (string_bytes text)
    c.remove-2.ensures.removed c.remove_template.ensures c.remove-3.ensures c.remove.ensures e) c.word_line.ensures)
