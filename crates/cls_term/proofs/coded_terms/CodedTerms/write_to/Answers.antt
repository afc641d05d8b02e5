use Rattle.std.proofs.Common.{ap, string_bytes, sym, ◌++◌, ◌∙◌}
use Rattle.cls_base.specs.Terms.{Applicative}
use Rattle.cls_term.specs.Banks.{at}
use Rattle.cls_term.specs.Texts.{name_at, text_of}
use Rattle.cls_term.proofs.Codes.{code_of-one_to_one}
use Rattle.cls_term.proofs.Decodes.{alone}
use Rattle.cls_term.proofs.coded_terms.CodedTerms.write_to.Goals as goal

pub returns : goal.returns
returns c =
    let e = at c.args.self.now c.args.place in
    let code = c.code.result.now in
    let w = c.in_ok-write_term.ensures in
    let same = code_of-one_to_one w.term e (alone code c.in_ok-write_term.field-0.now e w.term (sym c.code.ensures) w.begins ∙ c.code.ensures) in
    w.text ∙ ap (λ (t : Applicative). string_bytes c.args.text.now ++ text_of (name_at c.args.components.now) t) same
