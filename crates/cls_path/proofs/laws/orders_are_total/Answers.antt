use Rattle.cls_path.proofs.PathLaws.{paths_are_ordered, lists_are_ordered}
use Rattle.cls_path.proofs.laws.orders_are_total.Goals as goal

pub returns-clause-paths : goal.returns-clause-paths
returns-clause-paths c = paths_are_ordered

pub returns-clause-lists : goal.returns-clause-lists
returns-clause-lists c = lists_are_ordered
