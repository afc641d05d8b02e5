use Rattle.std.proofs.Common.{◌≡◌, ◌-◌, ◌≤◌, false, take, drop, length}
use Rattle.cls_syntax.specs.Numberings.{outcome}
use Rattle.cls_syntax.specs.SchemaReading.{Outer, Level, operand}
use Rattle.cls_syntax.specs.WaitingStacks.{Stands, Reads}
use Rattle.cls_syntax.proofs.schema_builder.atom.Given as goal

abbrev pub invariant-loop-place : goal.invariant-loop-place
invariant-loop-place g l =
    let tree = g.T.Tree.tree in
    let leaf = g.T.Tree.leaf in
    record {
      on : l.fn.from ≤ l.place;
      read : (o : Outer) (k : Level) → Stands tree l.fn.stack.items o k → Reads tree l.stack.items (λ o k. outcome leaf l.constructors l.variables false (operand o k) (drop l.place l.tokens)) (outcome leaf l.fn.constructors l.fn.variables false (operand o k) (drop l.fn.from l.tokens));
      kept : take (length l.fn.constructors) l.constructors ≡ l.fn.constructors;
      same : l.variables ≡ l.fn.variables;
    }

abbrev pub decreases-loop-place : goal.decreases-loop-place
decreases-loop-place g l = length l.initial.tokens - l.place
