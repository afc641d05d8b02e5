use Rattle.std.proofs.Common.{◌≡◌, ◌-◌, ℕ, List, sym, ap, ◌∙◌, subst, length}
use Rattle.std.proofs.lemmas.List.{length-map}
use Rattle.cls_lexer.specs.declared.token.Token.{Token}
use Rattle.cls_lexer.specs.Words.{word_of}
use Rattle.cls_lexer.specs.Words.{words, words_of}
use Rattle.cls_lexer.specs.Tokens.{byte_at, located}
use Rattle.cls_syntax.specs.SyntaxFaults.{IsFlat}
use Rattle.cls_syntax.specs.SpelledTerms.{term_text}
use Rattle.cls_syntax.proofs.Openings.{is_flat}
use Rattle.cls_term.specs.TokenFaults.{IsBadAt}
use Rattle.cls_term.proofs.TermFaults.{term_stop_refused, term_whole}
use Rattle.cls_term.proofs.token_reader.whole_term.Goals as goal

many : (ls : List Token) → length (words ls) ≡ length ls
many ls = length-map ls word_of

pub returns-in-Ok : goal.returns-in-Ok
returns-in-Ok c =
    let flat : IsFlat c.args.text.now = is_flat c.is_too_deep.result (words c.args.tokens.now) (words_of c.args.text.now) c.is_too_deep.ensures c.requires.words c.if-is_too_deep.false in
    term_whole c.args.text.now (words c.args.tokens.now) c.requires.words (term_text c.in-Ok.spelled) c.in-Ok.ensures flat

pub returns-in-Err : goal.returns-in-Err
returns-in-Err c = λ table.
    let line = c.args.text.now in
    let rest = c.in-Err.stop.rest.now in
    let flat : IsFlat line = is_flat c.is_too_deep.result (words c.args.tokens.now) (words_of line) c.is_too_deep.ensures c.requires.words c.if-is_too_deep.false in
    let refused = term_stop_refused line (words c.args.tokens.now) c.requires.words (words rest) c.in-Err.stop.wants_name (length c.args.tokens.now) (sym (length-map c.args.tokens.now located) ∙ ap length c.requires.tokens) flat c.in-Err.ensures in
    let place : byte_at line (length c.args.tokens.now - length (words rest)) ≡ byte_at line (length c.args.tokens.now - length rest) = λ i. byte_at line (length c.args.tokens.now - many rest i) in
    subst (λ (byte : ℕ). IsBadAt line byte) (place ∙ sym c.byte.ensures) refused
