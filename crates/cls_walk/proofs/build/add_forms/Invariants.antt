use Rattle.std.proofs.Common.{◌≡◌, ◌++◌, ◌∷◌, []}
use Rattle.cls_enum.specs.Candidates.{over}
use Rattle.cls_walk.specs.Repeats.{copies}
use Rattle.cls_walk.proofs.build.add_forms.Given as goal

abbrev pub invariant-loop-count : goal.invariant-loop-count
invariant-loop-count l = l.forms.items ≡ l.fn.forms.items ++ over l.count (λ j. (l.component, l.nodes ++ copies l.node j) ∷ [])
