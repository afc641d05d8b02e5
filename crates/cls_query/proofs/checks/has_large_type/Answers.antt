use Rattle.std.proofs.Common.{Bool, sym, ap, ◌∙◌}
use Rattle.std.specs.Prelude.{◌||◌}
use Rattle.cls_syntax.specs.SpelledTypes.{type_text}
use Rattle.cls_query.specs.QueryErrors.{is_large}
use Rattle.cls_query.proofs.CodeForms.{sub_large, typed_large, about_large, page_large, filtered_large}
use Rattle.cls_query.proofs.BatchLines.{batch_large}
use Rattle.cls_query.proofs.checks.has_large_type.Goals as goal

pub returns-then-is_large : goal.returns-then-is_large
returns-then-is_large c =
    c.if-is_large.true
    ∙ sym (sub_large c.in-Sub.is ∙ ap (λ (b : Bool). b || is_large (type_text c.in-Sub.upper)) (sym c.is_large.ensures ∙ c.if-is_large.true))

pub returns-else-is_large : goal.returns-else-is_large
returns-else-is_large c =
    c.is_large-else-is_large.ensures
    ∙ sym (sub_large c.in-Sub.is ∙ ap (λ (b : Bool). b || is_large (type_text c.in-Sub.upper)) (sym c.is_large.ensures ∙ c.if-is_large.false))

pub returns-in-Typed : goal.returns-in-Typed
returns-in-Typed c = c.is_large-in-Typed.ensures ∙ sym (typed_large c.in-Typed.is)

pub returns-in-About : goal.returns-in-About
returns-in-About c = c.is_large-in-About.ensures ∙ sym (about_large c.in-About.is)

pub returns-in-Page : goal.returns-in-Page
returns-in-Page c = c.has_large_goal.ensures ∙ sym (page_large c.in-Page.is)

pub returns-in-Filtered : goal.returns-in-Filtered
returns-in-Filtered c = c.has_large_goal-in-Filtered.ensures ∙ sym (filtered_large c.in-Filtered.is)

pub returns-in-Batch : goal.returns-in-Batch
returns-in-Batch c = c.has_large_among.ensures ∙ sym (batch_large c.in-Batch.is)
