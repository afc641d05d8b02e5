use Rattle.std.proofs.Common.{◌≡◌, ◌++◌, length}
use Rattle.cls_live.specs.Updates.{with_parts}
use Rattle.cls_live.proofs.updates.put_parts.Given as goal

abbrev pub invariant-loop-part : goal.invariant-loop-part
invariant-loop-part l = record {
  split : l.fn.parts.items ≡ l.yielded ++ l.part-iterator.rest.items;
  put : with_parts l.known.items l.part-iterator.rest.items ≡ with_parts l.fn.known.items l.fn.parts.items;
  count : length l.known.items ≡ length l.fn.known.items;
}
