use Rattle.cls_grammar.proofs.Trims.{trimmed-languages}
use Rattle.cls_grammar.proofs.grammar.Grammar.trim.Goals as goal

trimmed : goal.returns-clause-trimmed
trimmed c = record {
  flags = c.in_ok-flags.flags;
  productive = c.in_ok-flags.ensures;
  rows_are = c.in_ok-useful_rows.ensures;
}

pub returns-clause-trimmed : goal.returns-clause-trimmed
returns-clause-trimmed c = trimmed c

pub returns-clause-languages : goal.returns-clause-languages
returns-clause-languages c = trimmed-languages c.args.self.now c.in_ok-useful_rows.field-0 (trimmed c)
