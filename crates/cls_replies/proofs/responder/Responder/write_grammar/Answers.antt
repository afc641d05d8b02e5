use Rattle.std.proofs.Common.{refl, sym, subst, string_bytes}
use Rattle.cls_replies.specs.declared.printing.Left.TheVariants as left
use Rattle.cls_replies.specs.declared.printing.Lines.TheVariants as lines
use Rattle.cls_replies.specs.Printing.{IsOfGoal}
use Rattle.cls_replies.specs.Rests.{IsRest}
use Rattle.cls_replies.specs.Responder.{Responder, responder_of}
use Rattle.cls_replies.specs.Steps.{held_lines}
use Rattle.cls_grammar.specs.GrammarTexts.{lines_from}
use Rattle.cls_syntax.specs.TypePrinting.{name_in}
use Rattle.cls_replies.proofs.Portions.{some_text}
use Rattle.cls_replies.proofs.responder.Responder.write_grammar.Goals as goal

pub returns-in-Some-clause-rest : goal.returns-in-Some-clause-rest
returns-in-Some-clause-rest c =
    let i = c.self.inside in
    let s = responder_of i.names i.variables i.components i.kinds i.templates i.filter_names i.filters i.engine (held_lines i.held) in
    let new = string_bytes c.write_lines.new.text in
    let on = rw c.in-Some.is at c.in_ok-next.ensures.lines in
    let within = rw c.in-Some.is at c.in_ok-next.ensures.within in
    let full = rw c.in-Some.is at c.in_ok-next.ensures.full in
    let of_goal : IsOfGoal s c.args.grammar = subst (λ (z : Responder). IsOfGoal z c.args.grammar) (sym c.self.view_is) c.requires.of_goal in
    subst (λ (z : Responder). IsRest z (lines_from (name_in z.names) (name_in z.components) c.args.grammar c.args.ranks c.args.place) (string_bytes c.args.text.now) new (left.Lines (lines.Grammar c.args.grammar c.args.ranks c.in-Some.place))) c.self.view_is
    (record { lines = on; full = some_text new _ full; printable = (c.requires.ranked, within, of_goal) })

pub take_back-requires : goal.take_back-requires
take_back-requires c = subst (λ (z : Responder). IsOfGoal z c.args.grammar) (sym c.self.view_is) c.requires.of_goal

pub returns-in-None-clause-rest : goal.returns-in-None-clause-rest
returns-in-None-clause-rest c =
    let i = c.self.inside in
    let s = responder_of i.names i.variables i.components i.kinds i.templates i.filter_names i.filters i.engine (held_lines i.held) in
    let new = string_bytes c.write_lines.new.text in
    let on = rw c.in-None.is at c.in_ok-next.ensures.lines in
    subst (λ (z : Responder). IsRest z (lines_from (name_in z.names) (name_in z.components) c.args.grammar c.args.ranks c.args.place) (string_bytes c.args.text.now) new left.Nothing) c.self.view_is
    (record { lines = on; full = λ none. refl; printable = tt })
