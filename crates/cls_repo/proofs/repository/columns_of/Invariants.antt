use Rattle.std.proofs.Common.{map}
use Rattle.cls_repo.specs.Written.{component_of}
use Rattle.cls_repo.proofs.Columns.{AreFilled}
use Rattle.cls_repo.proofs.repository.columns_of.Given as goal

abbrev pub invariant-loop-component : goal.invariant-loop-component
invariant-loop-component l = AreFilled (map component_of l.fn.components.items) (map component_of l.component-iterator.rest.items) l.columns
