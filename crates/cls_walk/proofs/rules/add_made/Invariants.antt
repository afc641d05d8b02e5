use Rattle.std.proofs.Common.{◌≡◌, ◌<◌, ◌++◌, ℕ, length, map, take}
use Rattle.cls_walk.specs.FrameColumns.{pair_of}
use Rattle.cls_walk.specs.FrameRules.{made_by, mades_at}
use Rattle.cls_walk.proofs.rules.add_made.Given as goal

abbrev pub invariant-loop-pair : goal.invariant-loop-pair
invariant-loop-pair l = record {
  long : length l.makes.items ≡ length l.fn.makes.items;
  made : (n : ℕ) → n < length l.fn.makes.items → mades_at l.makes.items n ≡ mades_at l.fn.makes.items n ++ made_by n l.node (map pair_of (take l.pair-index l.pairs));
}
