use Rattle.std.proofs.Common.{ℕ, ◌<◌, ◌++◌, sym, ap, ◌∙◌, subst, length, arith}
use Rattle.std.specs.Prelude.{codes, Some, None}
use Rattle.std.specs.Fmt.{decimal}
use Rattle.std.proofs.lemmas.List.{length-map}
use Rattle.cls_base.specs.Firsts.{First}
use Rattle.cls_lexer.specs.Words.{word_of}
use Rattle.cls_syntax.specs.Forms.{part_word}
use Rattle.cls_term.specs.Components.{greatest_of}
use Rattle.cls_query.proofs.Searches.{match_none}
use Rattle.cls_query.specs.FormAnswers.{query_text, spelled_in}
use Rattle.cls_query.specs.Queries.{query_parts}
use Rattle.cls_query.specs.Steps.{value_errors}
use Rattle.cls_query.proofs.HeldTerms.{form_held}
use Rattle.cls_query.proofs.LineSteps.{unknown_said, term_said, values_silent}
use Rattle.cls_query.proofs.RowParts.{words_of_parts}
use Rattle.cls_query.proofs.checks.check_values.Goals as goal

pub returns-in-Some-clause-tested : goal.returns-in-Some-clause-tested
returns-in-Some-clause-tested c =
    let inside = sym c.is_excessive.ensures ∙ c.if-is_excessive.false in
    unknown_said c.args.line.now.text.now (query_text c.args.query.now) c.requires c.args.components.now c.args.filters.now inside _ _ c.in-Some.ensures.1

pub unknown_in_term-requires : goal.unknown_in_term-requires
unknown_in_term-requires c =
    let parts = query_parts (query_text c.args.query.now) in
    sym (length-map parts part_word) ∙ (ap length (sym (words_of_parts (query_text c.args.query.now)) ∙ (c.requires.spelled ∙ sym c.args.line.now.spoken)) ∙ length-map c.args.line.now.tokens.now word_of)

pub returns-in-Some-unknown_in_term-clause-tested : goal.returns-in-Some-unknown_in_term-clause-tested
returns-in-Some-unknown_in_term-clause-tested c =
    let line = c.args.line.now.text.now in
    let inside = sym c.is_excessive.ensures ∙ c.if-is_excessive.false in
    let none = match_none _ _ c.unknown.result c.in_default.not-Some c.unknown.ensures in
    subst (λ (b : ℕ). First (value_errors line c.args.components.now c.args.filters.now) (codes "token " ++ decimal b)) (sym c.byte.ensures)
    (term_said line (query_text c.args.query.now) c.requires c.args.components.now c.args.filters.now inside none c.in-Some-unknown_in_term.place (sym c.unknown_in_term.ensures ∙ c.in-Some-unknown_in_term.is))

pub returns-in_default-term-clause-tested : goal.returns-in_default-term-clause-tested
returns-in_default-term-clause-tested c =
    let placed = form_held c.args.components.now c.args.query.now None (sym c.term.ensures ∙ c.in_default-term.is) tt in
    let inside = sym c.is_excessive.ensures ∙ c.if-is_excessive.false in
    let none = match_none _ _ c.unknown.result c.in_default.not-Some c.unknown.ensures in
    values_silent c.args.line.now.text.now (query_text c.args.query.now) c.requires c.args.components.now c.args.filters.now inside none placed

pub returns-then-greatest-len-clause-tested : goal.returns-then-greatest-len-clause-tested
returns-then-greatest-len-clause-tested c =
    let below : greatest_of (spelled_in c.args.components.now c.in-Some-term.spelled) < length c.args.components.now = omega (arith, c.if-greatest-len.true, c.greatest.ensures, c.len.ensures.count, ap greatest_of c.in_ok-term.ensures) in
    let placed = form_held c.args.components.now c.args.query.now (Some c.in-Some-term.spelled) (sym c.term.ensures ∙ c.in-Some-term.is) below in
    let inside = sym c.is_excessive.ensures ∙ c.if-is_excessive.false in
    let none = match_none _ _ c.unknown.result c.in_default.not-Some c.unknown.ensures in
    values_silent c.args.line.now.text.now (query_text c.args.query.now) c.requires c.args.components.now c.args.filters.now inside none placed

pub returns-clause-tested : goal.returns-clause-tested
returns-clause-tested c =
    let inside = sym c.is_excessive.ensures ∙ c.if-is_excessive.false in
    let none = match_none _ _ c.unknown.result c.in_default.not-Some c.unknown.ensures in
    values_silent c.args.line.now.text.now (query_text c.args.query.now) c.requires c.args.components.now c.args.filters.now inside none (sym c.unknown_in_term.ensures ∙ c.in-None.is)
