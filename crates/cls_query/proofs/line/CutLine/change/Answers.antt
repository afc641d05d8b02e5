use Rattle.std.proofs.Common.{◌≡◌, ℕ, ◌-◌, List, sym, ap, ◌∙◌, subst, length}
use Rattle.std.specs.Prelude.{Option, IfSome, ◌&&◌}
use Rattle.std.proofs.lemmas.List.{length-map}
use Rattle.cls_base.specs.Firsts.{First}
use Rattle.cls_lexer.specs.declared.token.Token.{Token}
use Rattle.cls_lexer.specs.Tokens.{located, tokens_of, byte_at}
use Rattle.cls_lexer.specs.Words.{words, word_of, words_of}
use Rattle.cls_syntax.specs.LineGrammars.{grammar_read}
use Rattle.cls_syntax.specs.Sorts.{begins_reserved}
use Rattle.cls_syntax.specs.SyntaxFaults.{IsFlat}
use Rattle.cls_syntax.proofs.Openings.{is_flat}
use Rattle.cls_query.specs.Changes.{change_rows}
use Rattle.cls_query.specs.ChangeSteps.{spelling_errors}
use Rattle.cls_query.specs.QueryErrors.{place_words}
use Rattle.cls_query.specs.ReadChanges.{change_text}
use Rattle.cls_query.proofs.ChangeErrors.{form_silent, place_said}
use Rattle.cls_query.proofs.ChangeLines.{read_says}
use Rattle.cls_query.proofs.line.CutLine.change.Goals as goal

many : (ls : List Token) → length (words ls) ≡ length ls
many ls = length-map ls word_of

pub returns-in-Ok-clause-tested : goal.returns-in-Ok-clause-tested
returns-in-Ok-clause-tested c =
    let line = c.args.self.now.text.now in
    let flat : IsFlat line = is_flat c.is_too_deep.result (words c.args.self.now.tokens.now) (words_of line) c.is_too_deep.ensures c.args.self.now.spoken c.if-is_too_deep.false in
    let says = read_says (words_of line) (change_text c.in-Ok.change) (ap (grammar_read change_rows) (sym c.args.self.now.spoken) ∙ c.in-Ok.ensures) in
    form_silent line (change_text c.in-Ok.change) flat says

pub returns-in-Ok-clause-says : goal.returns-in-Ok-clause-says
returns-in-Ok-clause-says c =
    read_says (words_of c.args.self.now.text.now) (change_text c.in-Ok.change) (ap (grammar_read change_rows) (sym c.args.self.now.spoken) ∙ c.in-Ok.ensures)

pub returns-in-Err-clause-tested : goal.returns-in-Err-clause-tested
returns-in-Err-clause-tested c =
    let line = c.args.self.now.text.now in
    let ls = c.args.self.now.tokens.now in
    let rest = c.in-Err.stop.rest.now in
    let wants = c.in-Err.stop.wants_name in
    let flat : IsFlat line = is_flat c.is_too_deep.result (words c.args.self.now.tokens.now) (words_of line) c.is_too_deep.ensures c.args.self.now.spoken c.if-is_too_deep.false in
    let said = place_said line (words rest) wants flat (ap (grammar_read change_rows) (sym c.args.self.now.spoken) ∙ c.in-Err.ensures) in
    let count : length (tokens_of line) ≡ length ls = sym (sym (length-map ls located) ∙ ap length c.args.self.now.cut) in
    let place : length (tokens_of line) - length (words rest) ≡ length ls - length rest = λ i. count i - many rest i in
    subst (λ (o : Option (List ℕ)). IfSome o (λ w. First (spelling_errors line) w)) (sym c.left_at.ensures)
    (subst (λ n. First (spelling_errors line) (place_words (wants && begins_reserved (words rest)) (byte_at line n))) place said)
