use Rattle.std.proofs.Common.{◌≡◌, ◌+◌, ◌^◌, ◌<◌, ◌++◌, length, map, drop}
use Rattle.cls_filtered.specs.Stepwise.{lasts_in, parts_in}
use Rattle.cls_filtered.specs.StepBooks.{part_node, step_rule}
use Rattle.cls_filtered.proofs.step_book.put_rules.Given as goal

abbrev pub invariant-loop-place : goal.invariant-loop-place
invariant-loop-place l = record {
  lasts : map step_rule l.lasts.items ++ lasts_in (l.count + length l.parts.items) (drop l.place l.rules) ≡ map step_rule l.fn.lasts.items ++ lasts_in (l.count + length l.fn.parts.items) l.rules;
  parts : map part_node l.parts.items ++ parts_in (l.count + length l.parts.items) (drop l.place l.rules) ≡ map part_node l.fn.parts.items ++ parts_in (l.count + length l.fn.parts.items) l.rules;
  few : l.count + length l.parts.items < 2 ^ 32;
}
