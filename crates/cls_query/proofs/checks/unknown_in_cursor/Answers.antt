use Rattle.std.proofs.Common.{◌≡◌, ◌-◌, List, sym, ap, ◌∙◌, arith, length}
use Rattle.std.proofs.lemmas.List.{length-map}
use Rattle.std.specs.Prelude.{Option, position}
use Rattle.cls_lexer.specs.declared.token.Token.{Token}
use Rattle.cls_lexer.specs.Words.{words, word_of}
use Rattle.cls_syntax.specs.declared.spelled_term.SpelledTerm.{SpelledTerm}
use Rattle.cls_syntax.specs.SpelledTerms.{term_text}
use Rattle.cls_syntax.specs.TermTexts.{term_words}
use Rattle.cls_term.specs.TokenFaults as faults
use Rattle.cls_query.specs.FormAnswers.{place_behind}
use Rattle.cls_query.proofs.Searches.{behind}
use Rattle.cls_query.proofs.checks.unknown_in_cursor.Goals as goal

many : (ls : List Token) → length (words ls) ≡ length ls
many ls = length-map ls word_of

pub overflow_sub-count : goal.overflow_sub-count
overflow_sub-count c =
    let fits = rw c.in-Some.is at c.requires in
    let same : length c.as_slice.result.now ≡ length (term_words (term_text c.in-Some.term)) = sym (many c.as_slice.result.now) ∙ ap length c.as_slice.ensures in
    omega (arith, fits, same)

pub unknown_behind-requires : goal.unknown_behind-requires
unknown_behind-requires c =
    let fits = rw c.in-Some.is at c.requires in
    let same : length c.as_slice.result.now ≡ length (term_words (term_text c.in-Some.term)) = sym (many c.as_slice.result.now) ∙ ap length c.as_slice.ensures in
    let small = c.ranges.count in
    omega (arith, fits, same, small)

pub returns-in-Some : goal.returns-in-Some
returns-in-Some c =
    let same : length c.as_slice.result.now ≡ length (term_words (term_text c.in-Some.term)) = sym (many c.as_slice.result.now) ∙ ap length c.as_slice.ensures in
    c.unknown_behind.ensures
    ∙ (ap (λ n. behind (c.args.count - n) (position (faults.is_unknown c.args.components.now) (term_words (term_text c.in-Some.term)))) same
    ∙ sym (ap (λ (o : Option SpelledTerm). place_behind c.args.components.now c.args.count o) c.in-Some.is))
