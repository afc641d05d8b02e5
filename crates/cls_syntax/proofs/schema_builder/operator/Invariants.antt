use Rattle.std.proofs.Common.{ℕ, ◌-◌, ◌≤◌, List, false, drop, length}
use Rattle.cls_syntax.specs.Numberings.{outcome}
use Rattle.cls_syntax.specs.SchemaReading.{Outer, Level, atom_read}
use Rattle.cls_syntax.specs.WaitingStacks.{Stands, Reads}
use Rattle.cls_syntax.proofs.schema_builder.operator.Given as goal

abbrev pub invariant-loop-place : goal.invariant-loop-place
invariant-loop-place g l =
    let tree = g.T.Tree.tree in
    let leaf = g.T.Tree.leaf in
    record {
      on : l.fn.from ≤ l.place;
      read : (cs vs : List (List ℕ)) (o : Outer) (k : Level) → Stands tree l.fn.stack.items o k → Reads tree l.stack.items (λ o k. outcome leaf cs vs false (atom_read o k (tree l.read)) (drop l.place l.tokens)) (outcome leaf cs vs false (atom_read o k (tree l.fn.atom)) (drop l.fn.from l.tokens));
    }

abbrev pub decreases-loop-place : goal.decreases-loop-place
decreases-loop-place g l = length l.initial.tokens - l.place
