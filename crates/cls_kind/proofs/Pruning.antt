-- What pruning keeps of a type: the number of its paths and its spread. It adds no node.
use Rattle.std.proofs.Common.{◌≡◌, refl, sym, ◌∙◌, ap, ◌+◌, ◌*◌, ◌≤◌, arith}
use Rattle.cls_base.specs.Types as types
use Rattle.cls_base.specs.Types.{ClosedType, constructor, product, arrow, meet, nodes, path_count, spread}
use Rattle.cls_kind.specs.Instances.{IsSmall}
use Rattle.cls_kind.specs.Pruned.{arrow_to, meet_of, pruned}

-- what the forms come to
pub arrow_omega : (s t : ClosedType) → t ≡ types.omega → arrow_to s t ≡ t
unfolding arrow_to
arrow_omega s t e = ap (arrow_to s) e ∙ sym e

pub arrow_other : (s t : ClosedType) → (t ≡ types.omega → ⊥) → arrow_to s t ≡ arrow s t
unfolding arrow_to
arrow_other s types.omega f = absurd (f refl)
arrow_other s t f = refl

pub meet_first : (s t : ClosedType) → s ≡ types.omega → meet_of s t ≡ t
unfolding meet_of
meet_first s t e = ap (λ (u : ClosedType). meet_of u t) e

pub meet_omega : (s : ClosedType) → meet_of s types.omega ≡ s
unfolding meet_of
meet_omega types.omega = refl
meet_omega s = refl

pub meet_second : (s t : ClosedType) → t ≡ types.omega → meet_of s t ≡ s
meet_second s t e = ap (meet_of s) e ∙ meet_omega s

pub meet_other : (s t : ClosedType) → (s ≡ types.omega → ⊥) → (t ≡ types.omega → ⊥) → meet_of s t ≡ meet s t
unfolding meet_of
meet_other types.omega t f g = absurd (f refl)
meet_other s types.omega f g = absurd (g refl)
meet_other s t f g = refl

arrow_count : (s t : ClosedType) → path_count (arrow_to s t) ≡ path_count t
unfolding arrow_to
arrow_count s types.omega = refl
arrow_count s t = refl

arrow_spread : (s t : ClosedType) → spread (arrow_to s t) ≡ spread t + path_count t * (1 + spread s)
unfolding arrow_to
arrow_spread s types.omega = omega arith
arrow_spread s t = refl

arrow_nodes : (s t : ClosedType) → nodes (arrow_to s t) ≤ 1 + nodes s + nodes t
unfolding arrow_to
arrow_nodes s types.omega = omega arith
arrow_nodes s t = omega arith

meet_count : (s t : ClosedType) → path_count (meet_of s t) ≡ path_count s + path_count t
unfolding meet_of
meet_count types.omega t = omega arith
meet_count s types.omega = omega arith
meet_count s t = refl

meet_spread : (s t : ClosedType) → spread (meet_of s t) ≡ spread s + spread t
unfolding meet_of
meet_spread types.omega t = omega arith
meet_spread s types.omega = omega arith
meet_spread s t = refl

meet_nodes : (s t : ClosedType) → nodes (meet_of s t) ≤ 1 + nodes s + nodes t
unfolding meet_of
meet_nodes types.omega t = omega arith
meet_nodes s types.omega = omega arith
meet_nodes s t = omega arith

pub count-pruned : (t : ClosedType) → path_count (pruned t) ≡ path_count t
count-pruned types.omega = refl
count-pruned (constructor c s) = let h = count-pruned s in omega arith
count-pruned (product s t) = let h = count-pruned s in let k = count-pruned t in omega arith
count-pruned (arrow s t) = arrow_count (pruned s) (pruned t) ∙ count-pruned t
count-pruned (meet s t) = meet_count (pruned s) (pruned t) ∙ (λ i. count-pruned s i + count-pruned t i)

pub spread_pruned : (t : ClosedType) → spread (pruned t) ≡ spread t
spread_pruned types.omega = refl
spread_pruned (constructor c s) = let h = spread_pruned s in let k = count-pruned s in omega arith
spread_pruned (product s t) =
    let h = spread_pruned s in
    let k = spread_pruned t in
    let a = count-pruned s in
    let b = count-pruned t in
    omega arith
spread_pruned (arrow s t) = arrow_spread (pruned s) (pruned t) ∙ (λ i. spread_pruned t i + count-pruned t i * (1 + spread_pruned s i))
spread_pruned (meet s t) = meet_spread (pruned s) (pruned t) ∙ (λ i. spread_pruned s i + spread_pruned t i)

nodes-pruned : (t : ClosedType) → nodes (pruned t) ≤ nodes t
nodes-pruned types.omega = omega arith
nodes-pruned (constructor c s) = let h = nodes-pruned s in omega arith
nodes-pruned (product s t) = let h = nodes-pruned s in let k = nodes-pruned t in omega arith
nodes-pruned (arrow s t) = let e = arrow_nodes (pruned s) (pruned t) in let h = nodes-pruned s in let k = nodes-pruned t in omega arith
nodes-pruned (meet s t) = let e = meet_nodes (pruned s) (pruned t) in let h = nodes-pruned s in let k = nodes-pruned t in omega arith

pub small-pruned : (t : ClosedType) → IsSmall t → IsSmall (pruned t)
small-pruned t h = record {
  few_nodes = let e = nodes-pruned t in let k = h.few_nodes in omega arith;
  low_spread = let e = spread_pruned t in let k = h.low_spread in omega arith;
}
