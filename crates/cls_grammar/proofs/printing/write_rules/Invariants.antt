use Rattle.std.proofs.Common.{◌≡◌, ◌++◌, drop, string_bytes}
use Rattle.cls_syntax.specs.TypePrinting.{name_in}
use Rattle.cls_grammar.specs.GrammarTexts.{rules_text}
use Rattle.cls_grammar.proofs.printing.write_rules.Given as goal

abbrev pub invariant-loop-place : goal.invariant-loop-place
invariant-loop-place l = string_bytes l.text ++ rules_text (name_in l.components) (drop l.place l.rules) ≡ string_bytes l.initial.text ++ rules_text (name_in l.components) (drop l.from l.rules)
