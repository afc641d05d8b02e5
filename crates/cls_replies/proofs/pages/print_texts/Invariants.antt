use Rattle.std.proofs.Common.{◌≡◌, ◌++◌, drop}
use Rattle.std.specs.Prelude.{string_bytes}
use Rattle.std.specs.List.{flat_map}
use Rattle.cls_term.specs.Texts.{name_at}
use Rattle.cls_replies.specs.Texts.{term_lines}
use Rattle.cls_replies.proofs.pages.print_texts.Given as goal

abbrev pub invariant-loop-place : goal.invariant-loop-place
invariant-loop-place l = string_bytes l.text ++ flat_map (term_lines (name_at l.components) l.templates) (drop l.place l.page.terms) ≡ string_bytes l.initial.text ++ flat_map (term_lines (name_at l.components) l.templates) (drop l.from l.page.terms)
