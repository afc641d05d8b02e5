use Rattle.std.proofs.Common.{◌≡◌, ◌++◌, ◌∙◌, List, ℕ, Option, ap, length, subst, string_bytes}
use Rattle.std.specs.Prelude.{IfOk}
use Rattle.cls_syntax.specs.TypePrinting.{name_in}
use Rattle.cls_grammar.specs.GrammarTexts.{lines_from, lines_left}
use Rattle.cls_grammar.proofs.RowColumns.{book-count}
use Rattle.cls_grammar.proofs.grammar.Grammar.write_lines.Goals as goal

pub write_from-requires-clause-ranked : goal.write_from-requires-clause-ranked
write_from-requires-clause-ranked c = ap length c.as_slice.ensures ∙ (c.requires.ranked.count ∙ book-count c.args.self.now)

pub returns-clause-lines : goal.returns-clause-lines
returns-clause-lines c =
    let n = name_in c.args.names.now in
    let k = name_in c.args.components.now in
    subst (λ (rs : List (Option ℕ)). IfOk c.write_from.result (λ next. string_bytes c.write_from.new.text ++ lines_left n k c.args.self.now rs next ≡ string_bytes c.args.text.now ++ lines_from n k c.args.self.now rs c.args.from))
    c.as_slice.ensures c.write_from.ensures.lines
