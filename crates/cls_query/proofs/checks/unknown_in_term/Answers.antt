use Rattle.std.proofs.Common.{sym, ◌∙◌, arith}
use Rattle.cls_query.proofs.CodeForms.{sub_placed, typed_placed, about_placed, page_placed, filtered_placed, typed_fits, page_fits, filtered_fits}
use Rattle.cls_query.proofs.BatchLines.{batch_placed}
use Rattle.cls_query.proofs.checks.unknown_in_term.Goals as goal

pub unknown_behind-requires : goal.unknown_behind-requires
unknown_behind-requires c = let fits = typed_fits c.in-Typed.is c.args.count c.requires in let small = c.ranges.count in omega (arith, fits, small)

pub unknown_in_cursor-requires : goal.unknown_in_cursor-requires
unknown_in_cursor-requires c = page_fits c.args.components.now c.in-Page.is c.args.count c.requires

pub unknown_in_cursor-requires-in-Filtered : goal.unknown_in_cursor-requires-in-Filtered
unknown_in_cursor-requires-in-Filtered c = filtered_fits c.args.components.now c.in-Filtered.is c.args.count c.requires

pub returns-in-Sub : goal.returns-in-Sub
returns-in-Sub c = sub_placed c.args.components.now c.in-Sub.is

pub returns-in-Typed : goal.returns-in-Typed
returns-in-Typed c = c.unknown_behind.ensures ∙ sym (typed_placed c.args.components.now c.in-Typed.is)

pub returns-in-About : goal.returns-in-About
returns-in-About c = about_placed c.args.components.now c.in-About.is

pub returns-in-Page : goal.returns-in-Page
returns-in-Page c = c.unknown_in_cursor.ensures ∙ page_placed c.args.components.now c.in-Page.is c.args.count c.requires

pub returns-in-Filtered : goal.returns-in-Filtered
returns-in-Filtered c = c.unknown_in_cursor-in-Filtered.ensures ∙ filtered_placed c.args.components.now c.in-Filtered.is c.args.count c.requires

pub returns-in-Batch : goal.returns-in-Batch
returns-in-Batch c = batch_placed c.args.components.now c.in-Batch.is
