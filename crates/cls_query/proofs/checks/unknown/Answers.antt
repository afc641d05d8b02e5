use Rattle.std.proofs.Common.{◌≡◌, ℕ, List, sym, ap, ◌∙◌, subst}
use Rattle.std.specs.Prelude.{Option, Some, None, find}
use Rattle.cls_syntax.specs.declared.role.Role.TheVariants.{Component, Filter}
use Rattle.cls_syntax.specs.Forms.{Part, naming}
use Rattle.cls_query.specs.FormAnswers.{SpelledQuery, query_text}
use Rattle.cls_query.specs.Queries.{query_parts}
use Rattle.cls_query.specs.QueryErrors.{is_unknown}
use Rattle.cls_query.proofs.CodeForms.{sub_known, typed_known, about_known, listing_known, filter_known, filter_unknown}
use Rattle.cls_query.proofs.BatchLines.{batch_named_known}
use Rattle.cls_query.proofs.FormParts.{paths_unknown, paths_known}
use Rattle.cls_query.proofs.Searches.{match_weaker}
use Rattle.cls_query.proofs.checks.unknown.Goals as goal

abbrev Finds : (components filters : List (List ℕ)) → Option Part → SpelledQuery → Type 0
Finds components filters o q = find (is_unknown components filters) (query_parts (query_text q)) ≡ o

pub returns-in-Sub : goal.returns-in-Sub
returns-in-Sub c = sub_known c.args.components.now c.args.filters.now c.in-Sub.is

pub returns-in-Typed : goal.returns-in-Typed
returns-in-Typed c = typed_known c.args.components.now c.args.filters.now c.in-Typed.is

pub returns-in-About : goal.returns-in-About
returns-in-About c = about_known c.args.components.now c.args.filters.now c.in-About.is

pub returns-in-Page : goal.returns-in-Page
returns-in-Page c = listing_known c.args.components.now c.args.filters.now c.in-Page.is

pub returns-in-Batch : goal.returns-in-Batch
returns-in-Batch c = batch_named_known c.args.components.now c.args.filters.now c.in-Batch.is

pub returns-in-Paths : goal.returns-in-Paths
returns-in-Paths c =
    let components = c.args.components.now in
    let filters = c.args.filters.now in
    match_weaker c.absent.result
    (λ held. subst (Finds components filters None) (sym c.in-Paths.is) (paths_known components filters _ held))
    (λ x none. (
      Component,
      subst (Finds components filters (Some (naming Component x.now))) (sym c.in-Paths.is) (paths_unknown components filters _ none.0 ∙ ap (λ (y : List ℕ). Some (naming Component y)) (sym none.1)),
    ))
    c.absent.ensures

pub returns-in-Filtered : goal.returns-in-Filtered
returns-in-Filtered c =
    let components = c.args.components.now in
    let filters = c.args.filters.now in
    match_weaker c.absent-in-Filtered.result
    (λ held. filter_known components filters c.in-Filtered.is held)
    (λ x none. (Filter, filter_unknown components filters c.in-Filtered.is none.0 ∙ ap (λ (y : List ℕ). Some (naming Filter y)) (sym none.1)))
    c.absent-in-Filtered.ensures
