use Rattle.std.proofs.Common.{refl, subst, string_bytes}
use Rattle.cls_replies.specs.declared.printing.Left.TheVariants as left
use Rattle.cls_replies.specs.declared.printing.Lines.TheVariants as lines
use Rattle.cls_replies.specs.Printing.{page_left}
use Rattle.cls_replies.specs.Rests.{IsRest}
use Rattle.cls_replies.specs.Responder.{Responder, responder_of}
use Rattle.cls_replies.specs.Steps.{held_lines}
use Rattle.cls_replies.specs.Texts.{term_lines}
use Rattle.cls_term.specs.Texts.{name_at}
use Rattle.cls_replies.proofs.Portions.{some_text}
use Rattle.cls_replies.proofs.responder.Responder.write_texts.Goals as goal

pub returns-in-Some : goal.returns-in-Some
returns-in-Some c =
    let i = c.self.inside in
    let s = responder_of i.names i.variables i.components i.kinds i.templates i.filter_names i.filters i.engine (held_lines i.held) in
    let new = string_bytes c.print_texts.new.text in
    let on = rw c.in-Some.is at c.in_ok-next.ensures.lines in
    let full = rw c.in-Some.is at c.in_ok-next.ensures.full in
    subst (λ (z : Responder). IsRest z (page_left (term_lines (name_at z.components) z.templates) c.args.page c.args.place) (string_bytes c.args.text.now) new (left.Lines (lines.Texts c.args.page c.in-Some.place))) c.self.view_is
    (record { lines = on; full = some_text new _ full; printable = (let within = rw c.in-Some.is at c.in_ok-next.ensures.within in (within, rw (← c.self.view_is) at c.requires.named)) })

pub returns-in-None : goal.returns-in-None
returns-in-None c =
    let i = c.self.inside in
    let s = responder_of i.names i.variables i.components i.kinds i.templates i.filter_names i.filters i.engine (held_lines i.held) in
    let new = string_bytes c.print_texts.new.text in
    let on = rw c.in-None.is at c.in_ok-next.ensures.lines in
    subst (λ (z : Responder). IsRest z (page_left (term_lines (name_at z.components) z.templates) c.args.page c.args.place) (string_bytes c.args.text.now) new left.Nothing) c.self.view_is
    (record { lines = on; full = λ none. refl; printable = tt })
