use Rattle.std.proofs.Common.{◌≡◌, ◌+◌, ◌-◌, ◌*◌, ◌<◌, ◌++◌, [], length, string_bytes}
use Rattle.cls_path.specs.Paths.{listed}
use Rattle.cls_cert.specs.Left.{IsBlockLeft, IsStart, block_left, blocks_text}
use Rattle.cls_cert.proofs.blocks.write_blocks.Given as goal

abbrev pub invariant-loop-place : goal.invariant-loop-place
invariant-loop-place l = record {
  finder : l.finder ≡ record { library = l.lib; goal = l.goal };
  left : IsBlockLeft l.block;
  lines : string_bytes l.text ++ (block_left l.block ++ blocks_text l.components l.lib (listed l.goal) l.from) ≡ string_bytes l.fn.text ++ blocks_text l.components l.lib (listed l.goal) l.fn.start;
  full : length (string_bytes l.text) < l.enough → block_left l.block ≡ [];
  start : IsStart l.lib l.from;
}

-- how many places are left at most, where a component has one for each number of arguments up to 33, one more than its
-- greatest arity
abbrev pub decreases-loop-place : goal.decreases-loop-place
decreases-loop-place l = (length l.lib.components + 1) * 34 - (l.from.component * 34 + l.from.count)
