-- The goals of the tests.
use Rattle.std.specs.Prelude.{◌≡◌, ℕ, IsTrue, nat_eq}
use Rattle.std.proofs.lemmas.Bool.{eqb-true}
use Rattle.cls_machine_tests.specs.declared.heap.Node.{Node}

abbrev pub node : ℕ → Node
node n = record { id = n }

pub node_is : (x y : Node) → IsTrue (nat_eq x.id y.id) → x ≡ y
node_is x y e = λ i. record { id = eqb-true x.id y.id e i }
