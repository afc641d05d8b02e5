use Rattle.std.proofs.Common.{map, sym, ap, ◌∙◌, subst}
use Rattle.std.specs.List.{AllByRecursion}
use Rattle.std.specs.Option.{option_map}
use Rattle.cls_base.specs.Ty.{type_of}
use Rattle.cls_syntax.specs.ClosedTypes.{HasNoDollar}
use Rattle.cls_syntax.specs.TypeTexts.{type_words}
use Rattle.cls_query.specs.FormAnswers.{SpelledQuery, query_text, term_spelled, spelled_in}
use Rattle.cls_query.specs.QueryErrors.{query_types}
use Rattle.cls_query.specs.ReadQueries.{listing_of}
use Rattle.cls_query.proofs.CodeForms.{page_outside_is, both_within, sub_named, typed_named, about_named, page_named, filtered_outside_is, filtered_named, typed_means, about_means, page_means, filtered_means}
use Rattle.cls_query.proofs.BatchLines.{batch_closed, batch_means, batch_named}
use Rattle.cls_query.proofs.Searches.{some_or}
use Rattle.cls_query.proofs.build.build.Goals as goal

abbrev AreClosed : SpelledQuery → Type 0
AreClosed q = AllByRecursion (λ t. HasNoDollar (type_words t)) (query_types (query_text q))

pub both_types-requires-clause-lower : goal.both_types-requires-clause-lower
both_types-requires-clause-lower c = (subst AreClosed c.in-Sub.is c.requires.closed).0

pub both_types-requires-clause-upper : goal.both_types-requires-clause-upper
both_types-requires-clause-upper c = (subst AreClosed c.in-Sub.is c.requires.closed).1.0

pub closed-requires : goal.closed-requires
closed-requires c = (subst AreClosed c.in-Typed.is c.requires.closed).0

pub closed-requires-in-About : goal.closed-requires-in-About
closed-requires-in-About c = (subst AreClosed c.in-About.is c.requires.closed).0

pub page-requires-clause-closed : goal.page-requires-clause-closed
page-requires-clause-closed c = (subst AreClosed c.in-Page.is c.requires.closed).0

pub returns-in_ok-lower-in-Sub-clause-constructors : goal.returns-in_ok-lower-in-Sub-clause-constructors
returns-in_ok-lower-in-Sub-clause-constructors c = c.in_ok-lower-in-Sub.ensures.constructors ∙ sub_named c.args.constructors.now c.in-Sub.is

pub returns-in_ok-ty-in-Typed-clause-query : goal.returns-in_ok-ty-in-Typed-clause-query
returns-in_ok-ty-in-Typed-clause-query c =
    let asked = c.requires.term ∙ ap (λ (q : SpelledQuery). option_map (spelled_in c.args.components.now) (term_spelled q)) c.in-Typed.is in
    let term_is = ap (some_or c.in-Some.term) (sym c.in-Some.is ∙ asked) in
    typed_means _ c.args.components.now c.args.filters.now c.in-Typed.is c.in-Some.term (type_of c.in_ok-ty-in-Typed.ty) term_is c.in_ok-ty-in-Typed.ensures.ty

pub returns-in_ok-ty-in-Typed-clause-constructors : goal.returns-in_ok-ty-in-Typed-clause-constructors
returns-in_ok-ty-in-Typed-clause-constructors c = c.in_ok-ty-in-Typed.ensures.constructors ∙ typed_named c.args.constructors.now c.in-Typed.is

pub returns-in_ok-goal-in-About-clause-query : goal.returns-in_ok-goal-in-About-clause-query
returns-in_ok-goal-in-About-clause-query c =
    about_means _ c.args.components.now c.args.filters.now c.in-About.is (type_of c.in_ok-goal-in-About.goal) c.in_ok-goal-in-About.ensures.ty

pub returns-in_ok-goal-in-About-clause-constructors : goal.returns-in_ok-goal-in-About-clause-constructors
returns-in_ok-goal-in-About-clause-constructors c = c.in_ok-goal-in-About.ensures.constructors ∙ about_named c.args.constructors.now c.in-About.is

pub page-requires-clause-in_range : goal.page-requires-clause-in_range
page-requires-clause-in_range c =
    both_within c.in-Page.spelled.max.text.now c.in-Page.spelled.take.text.now (sym (page_outside_is c.in-Page.is) ∙ c.requires.in_range)

pub returns-in_ok-page-in-Page-clause-query : goal.returns-in_ok-page-in-Page-clause-query
returns-in_ok-page-in-Page-clause-query c =
    let given = c.requires.term ∙ ap (λ (q : SpelledQuery). option_map (spelled_in c.args.components.now) (term_spelled q)) c.in-Page.is in
    page_means _ c.args.components.now c.args.filters.now c.in-Page.is (listing_of c.in_ok-page-in-Page.page) (c.in_ok-page-in-Page.ensures.page c.args.components.now given)

pub returns-in_ok-page-in-Page-clause-constructors : goal.returns-in_ok-page-in-Page-clause-constructors
returns-in_ok-page-in-Page-clause-constructors c = c.in_ok-page-in-Page.ensures.constructors ∙ page_named c.args.constructors.now c.in-Page.is

pub page-requires-in-Filtered-clause-closed : goal.page-requires-in-Filtered-clause-closed
page-requires-in-Filtered-clause-closed c = (subst AreClosed c.in-Filtered.is c.requires.closed).0

pub page-requires-in-Filtered-clause-in_range : goal.page-requires-in-Filtered-clause-in_range
page-requires-in-Filtered-clause-in_range c =
    both_within c.in-Filtered.spelled.max.text.now c.in-Filtered.spelled.take.text.now (sym (filtered_outside_is c.in-Filtered.is) ∙ c.requires.in_range)

pub returns-in_ok-page-in-Filtered-clause-query : goal.returns-in_ok-page-in-Filtered-clause-query
returns-in_ok-page-in-Filtered-clause-query c =
    let given = c.requires.term ∙ ap (λ (q : SpelledQuery). option_map (spelled_in c.args.components.now) (term_spelled q)) c.in-Filtered.is in
    filtered_means _ c.args.components.now c.args.filters.now c.in-Filtered.is c.number-in-Filtered.result.0 (listing_of c.in_ok-page-in-Filtered.page) c.number-in-Filtered.ensures
    (c.in_ok-page-in-Filtered.ensures.page c.args.components.now given)

pub returns-in_ok-page-in-Filtered-clause-constructors : goal.returns-in_ok-page-in-Filtered-clause-constructors
returns-in_ok-page-in-Filtered-clause-constructors c = c.in_ok-page-in-Filtered.ensures.constructors ∙ filtered_named c.args.constructors.now c.in-Filtered.is

pub all_types-requires : goal.all_types-requires
all_types-requires c = batch_closed _ (subst AreClosed c.in-Batch.is c.requires.closed)

pub returns-in_ok-types-in-Batch-clause-query : goal.returns-in_ok-types-in-Batch-clause-query
returns-in_ok-types-in-Batch-clause-query c =
    batch_means _ c.args.components.now c.args.filters.now c.in-Batch.is (map type_of c.in_ok-types-in-Batch.types.items) c.in_ok-types-in-Batch.ensures.types

pub returns-in_ok-types-in-Batch-clause-constructors : goal.returns-in_ok-types-in-Batch-clause-constructors
returns-in_ok-types-in-Batch-clause-constructors c = c.in_ok-types-in-Batch.ensures.constructors ∙ batch_named c.args.constructors.now c.in-Batch.is
