use Rattle.std.proofs.Common.{length}
use Rattle.cls_page_tests.proofs.hand_book.+are_nodes.Given as goal

abbrev pub decreases-are_nodes : goal.decreases-are_nodes
decreases-are_nodes l = length l.args.now
