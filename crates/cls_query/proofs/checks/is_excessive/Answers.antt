use Rattle.std.proofs.Common.{sym, ◌∙◌}
use Rattle.cls_query.proofs.CodeForms.{sub_inside, typed_inside, about_inside, page_outside_is, filtered_outside_is, none_is, numbers_none}
use Rattle.cls_query.proofs.BatchLines.{batch_excessive}
use Rattle.cls_query.proofs.checks.is_excessive.Goals as goal

pub returns-in-Sub : goal.returns-in-Sub
returns-in-Sub c = sub_inside c.in-Sub.is

pub returns-in-Typed : goal.returns-in-Typed
returns-in-Typed c = typed_inside c.in-Typed.is

pub returns-in-About : goal.returns-in-About
returns-in-About c = about_inside c.in-About.is

pub returns-in-Page : goal.returns-in-Page
returns-in-Page c =
    none_is c.numbers.result c.is_none.result c.is_none.ensures
    ∙ (numbers_none c.numbers.result _ c.in-Page.listing.max.text.now c.in-Page.listing.take.text.now c.numbers.ensures
    ∙ sym (page_outside_is c.in-Page.is))

pub returns-in-Filtered : goal.returns-in-Filtered
returns-in-Filtered c =
    none_is c.numbers-in-Filtered.result c.is_none-in-Filtered.result c.is_none-in-Filtered.ensures
    ∙ (numbers_none c.numbers-in-Filtered.result _ c.in-Filtered.listing.max.text.now c.in-Filtered.listing.take.text.now c.numbers-in-Filtered.ensures
    ∙ sym (filtered_outside_is c.in-Filtered.is))

pub returns-in-Batch : goal.returns-in-Batch
returns-in-Batch c =
    batch_excessive c.in-Batch.is c.args.line.now.tokens.now (c.args.line.now.spoken ∙ sym c.requires.spelled) c.has_too_many_types.result c.has_too_many_types.ensures
