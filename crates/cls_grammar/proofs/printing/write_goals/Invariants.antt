use Rattle.std.proofs.Common.{◌≡◌, ◌++◌, string_bytes}
use Rattle.cls_syntax.specs.TypePrinting.{name_in}
use Rattle.cls_grammar.specs.GrammarTexts.{goals_from}
use Rattle.cls_grammar.proofs.printing.write_goals.Given as goal

abbrev pub invariant-loop-number : goal.invariant-loop-number
invariant-loop-number l = string_bytes l.text ++ goals_from (name_in l.tables.names.now) (name_in l.tables.components.now) l.grammar l.ranks l.number ≡ string_bytes l.initial.text ++ goals_from (name_in l.tables.names.now) (name_in l.tables.components.now) l.grammar l.ranks l.from
