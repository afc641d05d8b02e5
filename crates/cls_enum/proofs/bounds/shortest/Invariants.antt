use Rattle.std.proofs.Common.{◌≤◌, ◌+◌, map, take}
use Rattle.cls_base.specs.Limits.{max_term_length}
use Rattle.cls_base.specs.Terms.{Applicative, length_of}
use Rattle.cls_term.specs.Banks.{at}
use Rattle.cls_enum.specs.Members.{IsIn}
use Rattle.cls_enum.proofs.bounds.shortest.Given as goal

abbrev pub invariant-loop-number : goal.invariant-loop-number
invariant-loop-number l = record {
  least : (a : Applicative) → IsIn (map (at l.bank) (take l.number-index l.numbers)) a → l.least ≤ length_of a;
  small : l.least ≤ max_term_length + 1;
}
