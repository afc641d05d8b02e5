use Rattle.std.proofs.Common.{◌≡◌, ℕ, ◌-◌, sym, ap, ◌∙◌, length}
use Rattle.std.specs.Prelude.{◌&&◌}
use Rattle.std.proofs.lemmas.Bool.{true≢false}
use Rattle.std.proofs.lemmas.List.{length-map}
use Rattle.cls_base.specs.Firsts.{First}
use Rattle.cls_lexer.specs.Tokens.{tokens_of, located, byte_at}
use Rattle.cls_lexer.specs.Words.{words, word_of, words_of}
use Rattle.cls_syntax.specs.LineGrammars.{grammar_read}
use Rattle.cls_syntax.specs.Sorts.{begins_reserved}
use Rattle.cls_repo.specs.Directives.{repository_rows}
use Rattle.cls_repo.specs.FaultWords.{fault_words}
use Rattle.cls_repo.specs.LineFaults.{spelling_words}
use Rattle.cls_repo.specs.Written.{directive_of, spelling_faults}
use Rattle.cls_repo.proofs.Lines.{read_says}
use Rattle.cls_repo.proofs.Spelled.{spelled, place_first}
use Rattle.cls_repo.proofs.Taking.{on_said}
use Rattle.cls_repo.proofs.spelling.read_directive.Goals as goal

pub returns-in-Ok-clause-says : goal.returns-in-Ok-clause-says
returns-in-Ok-clause-says c = read_says (words_of c.args.text.now) (directive_of c.in-Ok.directive) (ap (grammar_read repository_rows) (sym c.requires.words) ∙ c.in-Ok.ensures)

pub returns-in-Ok-clause-silent : goal.returns-in-Ok-clause-silent
returns-in-Ok-clause-silent c =
    let line = c.args.text.now in
    let known = sym c.begins_directive.ensures ∙ c.if-not-begins_directive.false in
    let says = read_says (words_of line) (directive_of c.in-Ok.directive) (ap (grammar_read repository_rows) (sym c.requires.words) ∙ c.in-Ok.ensures) in
    spelled line (words c.args.tokens.now) c.requires.words known (λ h. true≢false (sym (c.is_too_deep.ensures.1 h) ∙ c.if-is_too_deep.false)) (directive_of c.in-Ok.directive) says

pub returns-in-Err-clause-fault : goal.returns-in-Err-clause-fault
returns-in-Err-clause-fault c =
    let line = c.args.text.now in
    let ls = c.args.tokens.now in
    let rest = c.in-Err.stop.rest.now in
    let wants = c.in-Err.stop.wants_name in
    let known = sym c.begins_directive.ensures ∙ c.if-not-begins_directive.false in
    let count : length ls ≡ length (tokens_of line) = sym (length-map ls located) ∙ ap length c.requires.tokens in
    let said : fault_words c.fault_at.result ≡ spelling_words (byte_at line (length ls - length (words rest))) (wants && begins_reserved (words rest)) =
    c.fault_at.ensures ∙ ap (λ (n : ℕ). spelling_words (byte_at line (length ls - n)) (wants && begins_reserved (words rest))) (sym (length-map rest word_of)) in
    on_said (First (spelling_faults line)) c.fault_at.result
    (place_first line (words ls) c.requires.words known (λ h. true≢false (sym (c.is_too_deep.ensures.1 h) ∙ c.if-is_too_deep.false)) (words rest) wants (length ls) (fault_words c.fault_at.result) count c.in-Err.ensures said)
