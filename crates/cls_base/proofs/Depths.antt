-- A type is no deeper than it has nodes.
use Rattle.std.proofs.Common.{ℕ, ◌+◌, ◌≤◌, arith, nat_lt, if◌then◌else◌, max, Bool, true, false}
use Rattle.cls_base.specs.Types as types
use Rattle.cls_base.specs.Types.{ClosedType, constructor, product, arrow, meet, nodes, open_at}

-- with parentheses or without
round : (b : Bool) (m n l : ℕ) → m ≤ n + l → (if b then 1 + m else m) ≤ 1 + n + l
round true m n l h = omega arith
round false m n l h = omega arith

wider : (a b m n : ℕ) → a ≤ m → b ≤ n → max a b ≤ m + n
wider a b m n h k = omega arith

pub open_at_within_nodes : (k : ℕ) (t : ClosedType) → open_at k t ≤ nodes t
open_at_within_nodes k types.omega = omega arith
open_at_within_nodes k (constructor c types.omega) = omega arith
open_at_within_nodes k (constructor c (constructor d s)) = omega (arith, open_at_within_nodes 0 (constructor d s))
open_at_within_nodes k (constructor c (product s t)) = omega (arith, open_at_within_nodes 0 (product s t))
open_at_within_nodes k (constructor c (arrow s t)) = omega (arith, open_at_within_nodes 0 (arrow s t))
open_at_within_nodes k (constructor c (meet s t)) = omega (arith, open_at_within_nodes 0 (meet s t))
open_at_within_nodes k (product s t) = round (nat_lt 2 k) _ (nodes s) (nodes t) (wider _ _ _ _ (open_at_within_nodes 2 s) (open_at_within_nodes 3 t))
open_at_within_nodes k (arrow s t) = round (nat_lt 0 k) _ (nodes s) (nodes t) (wider _ _ _ _ (open_at_within_nodes 1 s) (open_at_within_nodes 0 t))
open_at_within_nodes k (meet s t) = round (nat_lt 1 k) _ (nodes s) (nodes t) (wider _ _ _ _ (open_at_within_nodes 1 s) (open_at_within_nodes 2 t))
