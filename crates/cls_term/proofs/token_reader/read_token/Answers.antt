use Rattle.std.proofs.Common.{◌≡◌, sym, ap, ◌∙◌, subst, List, rules, false}
use Rattle.std.specs.List.{list_any}
use Rattle.cls_lexer.specs.Words.{Word}
use Rattle.cls_lexer.specs.Words.{words}
use Rattle.cls_term.specs.TokenFaults.{is_unknown}
use Rattle.cls_term.proofs.TermFaults.{all_known}
use Rattle.cls_term.proofs.token_reader.read_token.Goals as goal

pub returns-in_err-spelled-clause-exact : goal.returns-in_err-spelled-clause-exact
returns-in_err-spelled-clause-exact c =
    let failed = c.in_err-spelled.ensures c.args.components.now in
    search (rules, failed)

pub returns-clause-known : goal.returns-clause-known
returns-clause-known c =
    let none = all_known c.args.components.now (words c.deref-2.result.now) (sym c.first_unknown.ensures ∙ c.in_default.is) in
    let said = ap words c.deref-2.ensures.value ∙ c.in_ok-tokens.ensures.words in
    subst (λ (ws : List Word). list_any (is_unknown c.args.components.now) ws ≡ false) said none
