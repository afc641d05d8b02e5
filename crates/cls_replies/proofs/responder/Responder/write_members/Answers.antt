use Rattle.std.proofs.Common.{◌∙◌, append-nil, refl, sym, subst, string_bytes}
use Rattle.std.specs.Prelude.{Bool}
use Rattle.cls_cert.specs.Conditions.{forms_of}
use Rattle.cls_cert.specs.Left.{AreMembersLeft, IsWrittenOn, members_left}
use Rattle.cls_library.specs.Libraries.{Library}
use Rattle.cls_replies.specs.declared.printing.Left.TheVariants as left
use Rattle.cls_replies.specs.declared.printing.Lines.TheVariants as lines
use Rattle.cls_replies.specs.Printing.{IsOfGoal}
use Rattle.cls_replies.specs.Rests.{IsRest}
use Rattle.cls_replies.specs.Responder.{Responder, responder_of}
use Rattle.cls_replies.specs.Steps.{held_lines}
use Rattle.cls_replies.proofs.Portions.{some_text}
use Rattle.cls_replies.proofs.responder.Responder.write_members.Goals as goal

pub write_lines-requires : goal.write_lines-requires
write_lines-requires c =
    let left = subst (λ (z : Responder). AreMembersLeft z.engine.library c.args.grammar c.args.members) (sym c.self.view_is) c.requires.left in
    subst (λ (l : Library). AreMembersLeft l c.args.grammar c.args.members) (sym c.library-lib.ensures) left

pub returns-then-more-clause-rest : goal.returns-then-more-clause-rest
returns-then-more-clause-rest c =
    let i = c.self.inside in
    let s = responder_of i.names i.variables i.components i.kinds i.templates i.filter_names i.filters i.engine (held_lines i.held) in
    let lib = i.engine.library in
    let old = string_bytes c.args.text.now in
    let new = string_bytes c.write_lines.new.text in
    let goals = forms_of c.args.grammar in
    let members = c.write_lines.new.self in
    let told = subst (λ (l : Library). IsWrittenOn 32768 (members_left i.names i.components l goals c.args.members) (members_left i.names i.components l goals members) old new c.in_ok-more.more) c.library-lib.ensures c.in_ok-more.ensures.lines in
    let on = subst (λ (more : Bool). IsWrittenOn 32768 (members_left i.names i.components lib goals c.args.members) (members_left i.names i.components lib goals members) old new more) c.if-more.true told in
    let kept = subst (λ (l : Library). AreMembersLeft l c.args.grammar members) c.library-lib.ensures c.in_ok-more.ensures.left in
    let of_goal : IsOfGoal s c.args.grammar = subst (λ (z : Responder). IsOfGoal z c.args.grammar) (sym c.self.view_is) c.requires.of_goal in
    subst (λ (z : Responder). IsRest z (members_left z.names z.components z.engine.library goals c.args.members) old new (left.Lines (lines.Members c.args.grammar members))) c.self.view_is
    (record { lines = on.0; full = some_text new _ on.1; printable = (kept, of_goal) })

pub take_back-requires : goal.take_back-requires
take_back-requires c = subst (λ (z : Responder). IsOfGoal z c.args.grammar) (sym c.self.view_is) c.requires.of_goal

pub returns-clause-rest : goal.returns-clause-rest
returns-clause-rest c =
    let i = c.self.inside in
    let lib = i.engine.library in
    let old = string_bytes c.args.text.now in
    let new = string_bytes c.write_lines.new.text in
    let goals = forms_of c.args.grammar in
    let members = c.write_lines.new.self in
    let told = subst (λ (l : Library). IsWrittenOn 32768 (members_left i.names i.components l goals c.args.members) (members_left i.names i.components l goals members) old new c.in_ok-more.more) c.library-lib.ensures c.in_ok-more.ensures.lines in
    let on = subst (λ (more : Bool). IsWrittenOn 32768 (members_left i.names i.components lib goals c.args.members) (members_left i.names i.components lib goals members) old new more) c.if-more.false told in
    subst (λ (z : Responder). IsRest z (members_left z.names z.components z.engine.library goals c.args.members) old new left.Nothing) c.self.view_is
    (record { lines = append-nil new ∙ on; full = λ none. refl; printable = tt })
