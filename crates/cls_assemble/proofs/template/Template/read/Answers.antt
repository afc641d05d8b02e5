use Rattle.std.proofs.Common.{List, sym, subst, arith}
use Rattle.cls_assemble.specs.declared.piece.Piece.{Piece}
use Rattle.cls_assemble.specs.Steps.{IsReadUpTo}
use Rattle.cls_assemble.proofs.Reading.{read-none}
use Rattle.cls_assemble.proofs.template.Template.read.Goals as goal

pub loop-at-init : goal.loop-at-init
loop-at-init c = record {
  read = subst (λ (ps : List Piece). IsReadUpTo c.args.text.now ps 0) (sym c.new-template.ensures) (read-none c.args.text.now c.utf8.text);
  within = omega arith;
}
