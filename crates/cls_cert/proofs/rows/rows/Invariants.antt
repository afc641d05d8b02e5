use Rattle.std.proofs.Common.{◌<◌, [], length, map, All}
use Rattle.cls_grammar.specs.Grammars.{book_of}
use Rattle.cls_cert.specs.Conditions.{forms_of}
use Rattle.cls_cert.specs.Building.{AreRowsTo}
use Rattle.cls_cert.specs.declared.rows.MadeRow.{MadeRow}
use Rattle.cls_cert.specs.Left.{row_for}
use Rattle.cls_cert.proofs.rows.rows.Given as goal

abbrev pub invariant-loop-lower : goal.invariant-loop-lower
invariant-loop-lower l = record {
  made : AreRowsTo l.lib (forms_of l.grammar) (book_of l.grammar) l.lower [] (map (row_for (forms_of l.grammar)) l.rows.items);
  within : All (λ (r : MadeRow). r.number < length l.grammar) l.rows.items;
}
