use Rattle.std.proofs.Common.{◌≡◌, ◌++◌, ◌∙◌, ℕ, List, refl, sym, subst}
use Rattle.std.specs.Prelude.{Some, IfOk, codes, map, string_bytes, true}
use Rattle.std.specs.Option.{option_map}
use Rattle.std.proofs.lemmas.Result.{IfOk-weaker}
use Rattle.cls_assemble.specs.declared.piece.Piece.TheVariants.{Byte}
use Rattle.cls_base.specs.Schemas.{schema_of}
use Rattle.cls_query.specs.declared.change.Change.TheVariants.{Add}
use Rattle.cls_query.specs.QueryErrors.{is_absent}
use Rattle.cls_repo.specs.EndFaults.{library_words}
use Rattle.cls_replies.specs.Changing.{Makes}
use Rattle.cls_replies.specs.Responder.{Responder, responder_of}
use Rattle.cls_replies.specs.Steps.{held_lines}
use Rattle.cls_replies.specs.Texts.{error_line, reply_line}
use Rattle.cls_replies.proofs.Changing.{cut_back, makes_added, makes_refused, responder_added}
use Rattle.cls_replies.proofs.responder.Responder.add.Goals as goal

pub put_name-requires : goal.put_name-requires
put_name-requires c = subst (λ (s : Responder). is_absent s.components c.args.name.now ≡ true) (sym c.self.view_is) c.requires

pub returns-in-Ok-clause-makes : goal.returns-in-Ok-clause-makes
returns-in-Ok-clause-makes c =
    let i = c.self.inside in
    let s = responder_of i.names i.variables i.components i.kinds i.templates i.filter_names i.filters i.engine (held_lines i.held) in
    let n = responder_of i.names i.variables c.put_name.new.components i.kinds c.put_name.new.templates i.filter_names i.filters c.add.new.self (held_lines i.held) in
    let t = schema_of c.args.schema.now in
    subst (λ (z : Responder). IfOk c.word_line.result (λ text. Makes z (Add c.args.name.now t) (string_bytes text) n)) c.self.view_is
    (IfOk-weaker c.word_line.result (λ text. string_bytes text ≡ reply_line (codes "added")) (λ text. Makes s (Add c.args.name.now t) (string_bytes text) n)
    (λ text e. makes_added s c.args.name.now t c.put_name.new.components c.put_name.new.templates c.add.new.self (string_bytes text)
    c.in_ok-put_name.ensures.components c.in_ok-put_name.ensures.templates c.in-Ok.ensures.added c.in-Ok.ensures.costs c.add.ensures.options e) c.word_line.ensures)

pub invariant_of-self-in-Ok : goal.invariant_of-self-in-Ok
invariant_of-self-in-Ok c =
    let i = c.self.inside in
    let s = responder_of i.names i.variables i.components i.kinds i.templates i.filter_names i.filters i.engine (held_lines i.held) in
    responder_added s c.args.name.now (schema_of c.args.schema.now) c.self.invariant c.put_name.new.components c.put_name.new.templates c.add.new.self
    c.in_ok-put_name.ensures.components c.in_ok-put_name.ensures.templates c.in-Ok.ensures.added

-- after a refusal all is as it was: the name and the template are cut off again, and the engine is unchanged
pub returns-in-Err-clause-makes : goal.returns-in-Err-clause-makes
returns-in-Err-clause-makes c =
    let i = c.self.inside in
    let x = c.args.name.now in
    let s = responder_of i.names i.variables i.components i.kinds i.templates i.filter_names i.filters i.engine (held_lines i.held) in
    let n = responder_of i.names i.variables c.cut.new.self i.kinds c.cut_templates.new.templates i.filter_names i.filters c.add.new.self (held_lines i.held) in
    let t = schema_of c.args.schema.now in
    let count = c.len-count.ensures.count in
    let names = c.cut.ensures.kept ∙ cut_back i.components c.put_name.new.components x c.len-count.result count c.in_ok-put_name.ensures.components in
    let written = count ∙ (c.self.invariant.named ∙ sym c.self.invariant.written) in
    let texts = c.cut_templates.ensures ∙ cut_back i.templates c.put_name.new.templates (map Byte x) c.len-count.result written c.in_ok-put_name.ensures.templates in
    let same : n ≡ s = λ j. responder_of i.names i.variables (names j) i.kinds (texts j) i.filter_names i.filters (c.in-Err.ensures.unchanged j) (held_lines i.held) in
    subst (λ (z : Responder). IfOk c.refusal.result (λ text. Makes z (Add x t) (string_bytes text) n)) c.self.view_is
    (IfOk-weaker c.refusal.result (λ text. option_map (λ (words : List ℕ). error_line (codes "refused " ++ words)) (library_words i.variables x c.in-Err.fault.kind) ≡ Some (string_bytes text))
    (λ text. Makes s (Add x t) (string_bytes text) n)
    (λ text e. makes_refused s x t n c.in-Err.fault.kind (library_words i.variables x c.in-Err.fault.kind) (string_bytes text) c.in-Err.ensures.refused refl e same) c.refusal.ensures)
