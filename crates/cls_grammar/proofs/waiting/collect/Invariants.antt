use Rattle.std.proofs.Common.{◌≡◌, ◌≤◌, ◌++◌, length}
use Rattle.cls_grammar.specs.WaitingLists.{rules_among}
use Rattle.cls_grammar.proofs.waiting.collect.Given as goal

abbrev pub invariant-loop-among : goal.invariant-loop-among
invariant-loop-among l = (l.among ≤ length l.links) × (l.queue ++ rules_among l.links l.among ≡ rules_among l.links l.count)

abbrev pub decreases-loop-among : goal.decreases-loop-among
decreases-loop-among l = l.among
