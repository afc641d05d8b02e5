use Rattle.std.proofs.Common.{length}
use Rattle.cls_page_tests.proofs.generated.+add_with.Given as goal

abbrev pub decreases-add_with : goal.decreases-add_with
decreases-add_with l = length l.nodes.now
