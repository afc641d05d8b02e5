use Rattle.std.proofs.Common.{◌≡◌, ◌+◌, ◌^◌, ◌<◌, ◌++◌, length, map, drop}
use Rattle.cls_filtered.specs.Stepwise.{last_from, parts_from}
use Rattle.cls_filtered.specs.StepBooks.{part_node, step_rule}
use Rattle.cls_filtered.proofs.step_book.put_arguments.Given as goal

abbrev pub invariant-loop-argument : goal.invariant-loop-argument
invariant-loop-argument l = record {
  last : last_from (step_rule l.step) (l.count + length l.parts.items) (drop l.argument-index l.args) ≡ last_from (step_rule l.fn.first) (l.count + length l.fn.parts.items) l.args;
  parts : map part_node l.parts.items ++ parts_from (step_rule l.step) (l.count + length l.parts.items) (drop l.argument-index l.args) ≡ map part_node l.fn.parts.items ++ parts_from (step_rule l.fn.first) (l.count + length l.fn.parts.items) l.args;
  few : l.count + length l.parts.items < 2 ^ 32;
}
