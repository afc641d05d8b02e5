use Rattle.std.proofs.Common.{◌≡◌, ◌++◌, ◌∙◌, List, ℕ, ap, append_assoc, string_bytes, sym}
use Rattle.std.specs.Prelude.{codes}
use Rattle.std.proofs.lemmas.Result.{IfOk-weaker}
use Rattle.cls_syntax.specs.TypePrinting.{name_in}
use Rattle.cls_grammar.specs.GrammarTexts.{counts_text, goals_from, line, lines_from, lines_left, rows_text}
use Rattle.cls_grammar.specs.declared.printing.GrammarPlace.TheVariants as places
use Rattle.cls_grammar.proofs.printing.write_from.Goals as goal

pub returns-in_ok-write_counts-in-Counts-clause-lines : goal.returns-in_ok-write_counts-in-Counts-clause-lines
returns-in_ok-write_counts-in-Counts-clause-lines c =
    let n = name_in c.args.tables.now.names.now in
    let k = name_in c.args.tables.now.components.now in
    let rows = c.args.grammar.now in
    let ranks = c.args.ranks.now in
    let old = string_bytes c.args.text.now in
    let counted : string_bytes c.write_counts.new.text ++ goals_from n k rows ranks 0 ≡ old ++ lines_from n k rows ranks places.Counts =
    ap (λ (v : List ℕ). v ++ goals_from n k rows ranks 0) c.in_ok-write_counts-in-Counts.ensures
    ∙ (append_assoc old (counts_text rows) (goals_from n k rows ranks 0)
    ∙ ap (λ (v : List ℕ). old ++ v) (sym (append_assoc (counts_text rows) (rows_text n k 0 rows ranks) (line (codes "done"))))) in
    rw c.in-Counts.is (IfOk-weaker c.write_goals.result
    (λ next. string_bytes c.write_goals.new.text ++ lines_left n k rows ranks next ≡ string_bytes c.write_counts.new.text ++ goals_from n k rows ranks 0)
    (λ next. string_bytes c.write_goals.new.text ++ lines_left n k rows ranks next ≡ old ++ lines_from n k rows ranks places.Counts)
    (λ next e. e ∙ counted)
    c.write_goals.ensures.lines)

pub returns-in-Goal-clause-lines : goal.returns-in-Goal-clause-lines
returns-in-Goal-clause-lines c = rw c.in-Goal.is c.write_goals-in-Goal.ensures.lines

pub write_from_rule-requires-clause-place : goal.write_from_rule-requires-clause-place
write_from_rule-requires-clause-place c = rw c.in-Rule.is at c.requires.place

pub returns-in-Rule-clause-lines : goal.returns-in-Rule-clause-lines
returns-in-Rule-clause-lines c = rw c.in-Rule.is c.write_from_rule.ensures.lines
