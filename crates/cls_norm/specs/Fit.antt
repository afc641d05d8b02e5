-- Types that are small enough to be worked on further.
use Rattle.std.specs.Prelude.{ℕ, ◌+◌, ◌≤◌, min, Bool, true, false}
use Rattle.cls_base.specs.Limits.{max_type_nodes, max_type_depth, max_type_spread}
use Rattle.cls_base.specs.Types.{ClosedType, nodes, depth, spread}
use Rattle.cls_path.specs.Paths.{TypePath, atom, inside, unit, left, right, function, sealed}

pub record IsFit (t : ClosedType) : Type 0 where
  pub few : nodes t ≤ max_type_nodes
  pub shallow : depth t ≤ max_type_depth
  pub narrow : spread t ≤ max_type_spread

-- internal: a number of nodes, or one more than the greatest that is fit if it is greater
abbrev pub up_to_fit : ℕ → ℕ
up_to_fit n = min (max_type_nodes + 1) n

-- internal: whether the path is a bare name
abbrev pub is_name : TypePath → Bool
is_name (atom c) = true
is_name (inside c p) = false
is_name unit = false
is_name (left p) = false
is_name (right p) = false
is_name (function n p) = false
is_name (sealed c n) = false
