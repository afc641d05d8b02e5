use Rattle.std.proofs.Common.{length}
use Rattle.cls_page_tests.proofs.hand_book.+all_within.Given as goal

abbrev pub decreases-all_within : goal.decreases-all_within
decreases-all_within l = length l.nodes.now
