use Rattle.std.proofs.Common.{◌≡◌, ◌-◌, List, sym, ap, ◌∙◌, subst, length}
use Rattle.std.specs.Prelude.{◌&&◌}
use Rattle.std.proofs.lemmas.List.{length-map}
use Rattle.cls_lexer.specs.declared.token.Token.{Token}
use Rattle.cls_lexer.specs.Tokens.{located}
use Rattle.cls_lexer.specs.Words.{word_of}
use Rattle.cls_syntax.specs.Sorts.{begins_reserved}
use Rattle.cls_syntax.specs.declared.syntax_fault.SyntaxFault.{SyntaxFault}
use Rattle.cls_lexer.specs.Tokens.{located}
use Rattle.cls_lexer.specs.Words.{words, words_of}
use Rattle.cls_syntax.specs.SyntaxFaults.{IsFlat, IsNoType, fault_from}
use Rattle.cls_syntax.proofs.Openings.{is_flat}
use Rattle.cls_syntax.proofs.TypeFaults.{type_stop_refused}
use Rattle.cls_syntax.proofs.read.whole_type.Goals as goal

many : (ls : List Token) → length (words ls) ≡ length ls
many ls = length-map ls word_of

pub returns-in-Err : goal.returns-in-Err
returns-in-Err c =
    let line = c.args.text.now in
    let rest = c.in-Err.stop.rest.now in
    let flat : IsFlat line = is_flat c.is_too_deep.result (words c.args.tokens.now) (words_of line) c.is_too_deep.ensures c.requires.words c.if-is_too_deep.false in
    let refused = type_stop_refused line (words c.args.tokens.now) c.requires.words (words rest) c.in-Err.stop.wants_name (length c.args.tokens.now) (sym (length-map c.args.tokens.now located) ∙ ap length c.requires.tokens) flat c.in-Err.ensures in
    let place = ap (λ n. fault_from line (length c.args.tokens.now - n) (c.in-Err.stop.wants_name && begins_reserved (words rest))) (many rest) in
    subst (λ (f : SyntaxFault). IsNoType line f) (place ∙ sym c.fault_at.ensures) refused
