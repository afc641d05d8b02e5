use Rattle.std.proofs.Common.{take, length, ◌≡◌}
use Rattle.cls_library.proofs.Marking.{EachMarked}
use Rattle.cls_library.proofs.marks.Marks.of.Given as goal

abbrev pub invariant-loop-kind : goal.invariant-loop-kind
invariant-loop-kind l =
    record {
      marked : EachMarked l.words (take l.kind-index l.kinds);
      count : length l.words ≡ 16;
    }
