-- No instance has more nodes than that of the largest types, as far as they are counted.
use Rattle.std.proofs.Common.{◌≡◌, ℕ, zero, suc, ◌+◌, ◌/◌, ◌%◌, ◌<◌, ◌≤◌, Bool, true, false, List, [], ◌∷◌, ◌++◌, length, get_or, sym, subst, arith}
use Rattle.std.specs.Prelude.{All, ◌==◌, if◌then◌else◌}
use Rattle.cls_base.specs.Limits.{max_instance_nodes}
use Rattle.cls_base.specs.Types as types
use Rattle.cls_base.specs.Types.{ClosedType}
use Rattle.cls_base.specs.Schemas as schemas
use Rattle.cls_base.specs.Schemas.{OpenType, constructor, product, arrow, meet, variable}
use Rattle.cls_kind.specs.Instances.{choice_at, count_of, instance_by, instance_of, type_for}
use Rattle.cls_kind.specs.Ranges.{AreLargest, HaveFewNodes, capped_nodes}
use Rattle.cls_kind.proofs.ChoiceLaws as laws
use Rattle.cls_kind.proofs.ChoiceLaws.{product-positive, quotient-within}

pub largest-more :
    (rs : List (ℕ × List ClosedType)) (cs : List (ℕ × ClosedType)) (r : ℕ × List ClosedType) (c : ℕ × ClosedType)
    → AreLargest rs cs → c.0 ≡ r.0 → All (λ t. capped_nodes t ≤ capped_nodes c.1) r.1
    → AreLargest (rs ++ r ∷ []) (cs ++ c ∷ [])
largest-more [] [] r c h e a = (e, a, tt)
largest-more [] (d ∷ cs) r c h e a = absurd h
largest-more (q ∷ rs) [] r c h e a = absurd h
largest-more (q ∷ rs) (d ∷ cs) r c h e a = (h.0, h.1, largest-more rs cs r c h.2 e a)

nodes-within : (f g : ℕ → ClosedType) → ((v : ℕ) → capped_nodes (f v) ≤ capped_nodes (g v)) → (s : OpenType) → capped_nodes (instance_of f s) ≤ capped_nodes (instance_of g s)
nodes-within f g h schemas.omega = omega arith
nodes-within f g h (constructor c s) = let a = nodes-within f g h s in omega arith
nodes-within f g h (product s t) = let a = nodes-within f g h s in let b = nodes-within f g h t in omega arith
nodes-within f g h (arrow s t) = let a = nodes-within f g h s in let b = nodes-within f g h t in omega arith
nodes-within f g h (meet s t) = let a = nodes-within f g h s in let b = nodes-within f g h t in omega arith
nodes-within f g h (variable v) = h v

first-within :
    (b : Bool) (t m x y : ClosedType) → capped_nodes t ≤ capped_nodes m → capped_nodes x ≤ capped_nodes y
    → capped_nodes (if b then t else x) ≤ capped_nodes (if b then m else y)
first-within true t m x y h k = h
first-within false t m x y h k = k

type-within :
    (rs : List (ℕ × List ClosedType)) (most : List (ℕ × ClosedType)) (k : ℕ) → AreLargest rs most → k < count_of rs
    → (v : ℕ) → capped_nodes (type_for (choice_at rs k) v) ≤ capped_nodes (type_for most v)
type-within [] [] zero h l v = omega arith
type-within [] [] (suc k) h l v = absurd (omega arith)
type-within [] (c ∷ cs) k h l v = absurd h
type-within (r ∷ rs) [] k h l v = absurd h
type-within (r ∷ rs) (c ∷ cs) k h l v =
    let n = count_of rs in
    let p = product-positive k (length r.1) n l in
    let i : k / n < length r.1 = quotient-within k (length r.1) n p.1 l in
    let q : 0 < n = p.1 in
    let j : k % n < n = omega arith in
    let t = get_or r.1 (k / n) types.omega in
    let rest = choice_at rs (k % n) in
    let least = type-within rs cs (k % n) h.2 j v in
    let one = first-within (v == r.0) t c.1 (type_for rest v) (type_for cs v) (h.1 (k / n) types.omega i) least in
    let here = subst (λ (w : ℕ). capped_nodes (type_for ((r.0, t) ∷ rest) v) ≤ capped_nodes (if v == w then c.1 else type_for cs v)) (sym h.0) one in
    subst (λ (ch : List (ℕ × ClosedType)). capped_nodes (type_for ch v) ≤ capped_nodes (type_for (c ∷ cs) v)) (sym (laws.choice_at r rs k types.omega l)) here

pub few-all :
    (rs : List (ℕ × List ClosedType)) (most : List (ℕ × ClosedType)) (s : OpenType) → AreLargest rs most
    → capped_nodes (instance_by most s) < max_instance_nodes + 1 → HaveFewNodes rs s
few-all rs most s h l k i =
    let a = nodes-within (type_for (choice_at rs k)) (type_for most) (type-within rs most k h i) s in
    omega arith
