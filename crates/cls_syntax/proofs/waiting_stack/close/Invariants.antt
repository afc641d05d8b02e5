use Rattle.std.proofs.Common.{vec_len}
use Rattle.cls_syntax.specs.SchemaReading.{Outer, Level}
use Rattle.cls_syntax.specs.WaitingStacks.{Stands, all_of}
use Rattle.cls_syntax.proofs.Building.{IsInside}
use Rattle.cls_syntax.proofs.waiting_stack.close.Given as goal

abbrev pub invariant-loop-waiting : goal.invariant-loop-waiting
invariant-loop-waiting g l =
    let tree = g.T.Tree.tree in
    (o : Outer) (k : Level) → Stands tree l.initial.stack.items o k → IsInside tree l.stack.items o (tree l.whole) (all_of k (tree l.initial.whole))

abbrev pub decreases-loop-waiting : goal.decreases-loop-waiting
decreases-loop-waiting g l = vec_len l.stack
