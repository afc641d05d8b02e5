use Rattle.std.proofs.Common.{◌≡◌, ◌-◌, false, take, drop, length}
use Rattle.cls_syntax.specs.Numberings.{outcome}
use Rattle.cls_syntax.specs.SchemaReading.{whole, empty_level, operand}
use Rattle.cls_syntax.specs.WaitingStacks.{Reads}
use Rattle.cls_syntax.proofs.schema_builder.build.Given as goal

abbrev pub invariant-loop-stack : goal.invariant-loop-stack
invariant-loop-stack g l =
    let tree = g.T.Tree.tree in
    let leaf = g.T.Tree.leaf in
    record {
      read : Reads tree l.stack.items (λ o k. outcome leaf l.constructors l.variables false (operand o k) (drop l.place l.tokens)) (outcome leaf l.fn.constructors l.fn.variables false (operand whole empty_level) l.tokens);
      kept : take (length l.fn.constructors) l.constructors ≡ l.fn.constructors;
      variables_kept : take (length l.fn.variables) l.variables ≡ l.fn.variables;
    }

abbrev pub decreases-loop-stack : goal.decreases-loop-stack
decreases-loop-stack g l = length l.initial.tokens - l.place
