use Rattle.std.proofs.Common.{sym, ap, ◌∙◌, subst, List}
use Rattle.cls_lexer.specs.Words.{Word}
use Rattle.cls_lexer.specs.Words.{words}
use Rattle.cls_syntax.specs.ClosedTypes.{HasNoDollar}
use Rattle.cls_syntax.proofs.Dollars.{no_dollar}
use Rattle.cls_syntax.proofs.read.read_type.Goals as goal

pub ty-requires : goal.ty-requires
ty-requires c =
    let none = no_dollar (words c.deref-2.result.now) (sym c.first_variable.ensures ∙ c.in_default.is) in
    let said = ap words c.deref-2.ensures.value ∙ (c.in_ok-tokens.ensures.words ∙ sym c.in_ok-spelled.ensures.spells) in
    subst (λ (ws : List Word). HasNoDollar ws) said none

pub returns-clause-closed : goal.returns-clause-closed
returns-clause-closed c =
    let none = no_dollar (words c.deref-2.result.now) (sym c.first_variable.ensures ∙ c.in_default.is) in
    let said = ap words c.deref-2.ensures.value ∙ c.in_ok-tokens.ensures.words in
    subst (λ (ws : List Word). HasNoDollar ws) said none
