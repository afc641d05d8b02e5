use Rattle.std.proofs.Common.{◌∙◌, ◌++◌, List, ℕ, ap, sym, append-nil, string_bytes}
use Rattle.cls_replies.specs.Printing.{left_lines}
use Rattle.cls_replies.proofs.responder.Responder.print.Goals as goal

pub returns-in-Nothing-clause-portion : goal.returns-in-Nothing-clause-portion
returns-in-Nothing-clause-portion c =
    let s = c.args.self.now in
    rw (← c.into_left-left.ensures, c.in-Nothing.is) (sym ((λ j. c.new.ensures.bytes j ++ c.nothing.ensures.text s j)))

pub returns-in-Nothing-clause-printable : goal.returns-in-Nothing-clause-printable
returns-in-Nothing-clause-printable c = c.nothing.ensures.printable c.args.self.now

pub returns-in-Text-clause-portion : goal.returns-in-Text-clause-portion
returns-in-Text-clause-portion c =
    let s = c.args.self.now in
    let text = string_bytes c.in-Text.text in
    rw (← c.into_left-left.ensures, c.in-Text.is) (sym (append-nil text) ∙ ap (λ (v : List ℕ). text ++ v) (sym (c.nothing-in-Text.ensures.text s)))

pub returns-in-Text-clause-printable : goal.returns-in-Text-clause-printable
returns-in-Text-clause-printable c = c.nothing-in-Text.ensures.printable c.args.self.now

pub returns-in-Begun-clause-portion : goal.returns-in-Begun-clause-portion
returns-in-Begun-clause-portion c =
    let first = string_bytes c.in-Begun.first in
    rw (← c.into_left-left.ensures, c.in-Begun.is) (sym (ap (λ (v : List ℕ). first ++ v) (c.of_lines.ensures.text c.args.self.now)))

pub returns-in-Begun-clause-ended : goal.returns-in-Begun-clause-ended
returns-in-Begun-clause-ended c = λ none.
    let left = rw (← c.into_left-left.ensures) at c.requires in
    let begun = rw c.in-Begun.is at left in
    absurd (begun.0 none)

pub returns-in-Begun-clause-printable : goal.returns-in-Begun-clause-printable
returns-in-Begun-clause-printable c =
    let left = rw (← c.into_left-left.ensures) at c.requires in
    let begun = rw c.in-Begun.is at left in
    c.of_lines.ensures.printable c.args.self.now begun.1

pub write_lines-requires : goal.write_lines-requires
write_lines-requires c =
    let left = rw (← c.into_left-left.ensures) at c.requires in
    let printable = rw c.in-Lines.is at left in
    rw c.empty_text-portion.ensures.same printable

pub returns-in_ok-rest-in-Lines-clause-portion : goal.returns-in_ok-rest-in-Lines-clause-portion
returns-in_ok-rest-in-Lines-clause-portion c =
    let rest = rw c.empty_text-portion.ensures.same at c.in_ok-rest-in-Lines.ensures.rest in
    rw (← c.into_left-left.ensures, c.in-Lines.is) (sym (rest.lines ∙ ap (λ (v : List ℕ). v ++ left_lines c.args.self.now c.in-Lines.lines) c.empty_text-portion.ensures.empty))

pub returns-in_ok-rest-in-Lines-clause-ended : goal.returns-in_ok-rest-in-Lines-clause-ended
returns-in_ok-rest-in-Lines-clause-ended c =
    let rest = rw c.empty_text-portion.ensures.same at c.in_ok-rest-in-Lines.ensures.rest in
    rest.full

pub returns-in_ok-rest-in-Lines-clause-printable : goal.returns-in_ok-rest-in-Lines-clause-printable
returns-in_ok-rest-in-Lines-clause-printable c =
    let rest = rw c.empty_text-portion.ensures.same at c.in_ok-rest-in-Lines.ensures.rest in
    rest.printable
