use Rattle.std.proofs.Common.{[]}
use Rattle.cls_filtered.specs.Makings.{AreMade}
use Rattle.cls_filtered.proofs.Nodes.{nodes_to}
use Rattle.cls_filtered.proofs.filtered_book.book_of.Given as goal

abbrev pub invariant-loop-node : goal.invariant-loop-node
invariant-loop-node l =
    AreMade (nodes_to l.filter l.maker.kept l.steps l.node) [] l.draft.nodes.items l.limit l.draft.room
