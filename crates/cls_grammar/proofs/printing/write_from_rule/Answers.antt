use Rattle.std.proofs.Common.{◌≡◌, ◌≤◌, ◌+◌, ◌++◌, arith, length, string_bytes}
use Rattle.std.proofs.lemmas.Result.{IfOk-weaker}
use Rattle.cls_syntax.specs.TypePrinting.{name_in}
use Rattle.cls_grammar.specs.GrammarTexts.{goals_from, lines_from, lines_left}
use Rattle.cls_grammar.specs.declared.printing.GrammarPlace.TheVariants as places
use Rattle.cls_grammar.proofs.PrintedRows.{rules-begun, rules-done}
use Rattle.cls_grammar.proofs.printing.write_from_rule.Goals as goal

pub returns-then-next-count-clause-lines : goal.returns-then-next-count-clause-lines
returns-then-next-count-clause-lines c =
    rules-begun (name_in c.args.tables.now.names.now) (name_in c.args.tables.now.components.now) c.args.grammar.now c.args.ranks.now c.args.number c.rules-rules.result.now c.args.place c.in_ok-next.next (string_bytes c.args.text.now) (string_bytes c.write_rules.new.text)
    c.rules-rules.ensures.rules c.in_ok-next.ensures.lines

pub returns-clause-lines : goal.returns-clause-lines
returns-clause-lines c =
    let n = name_in c.args.tables.now.names.now in
    let k = name_in c.args.tables.now.components.now in
    let rows = c.args.grammar.now in
    let ranks = c.args.ranks.now in
    let over : length c.rules-rules.result.now ≤ c.in_ok-next.next = omega (arith, c.if-next-count.false, c.len-count.ensures) in
    IfOk-weaker c.write_goals.result
    (λ next. string_bytes c.write_goals.new.text ++ lines_left n k rows ranks next ≡ string_bytes c.write_rules.new.text ++ goals_from n k rows ranks (c.args.number + 1))
    (λ next. string_bytes c.write_goals.new.text ++ lines_left n k rows ranks next ≡ string_bytes c.args.text.now ++ lines_from n k rows ranks (places.Rule c.args.number c.args.place))
    (λ next e. rules-done n k rows ranks c.args.number c.rules-rules.result.now c.args.place c.in_ok-next.next (string_bytes c.args.text.now) (string_bytes c.write_rules.new.text) _ c.rules-rules.ensures.rules c.in_ok-next.ensures.lines over e)
    c.write_goals.ensures.lines
