-- A type of few nodes is fit: its spread is below 2 to the power of its nodes.
use Rattle.std.proofs.Common.{◌≡◌, ℕ, zero, suc, ◌+◌, ◌*◌, ◌^◌, ◌≤◌, ◌<◌, ◌∙◌, ap, arith}
use Rattle.std.proofs.Math.Nat.{mul-le-mul_left, mul-le-mul_right, two-pow-succ}
use Rattle.std.proofs.Math.Pow.{pow-lt}
use Rattle.std.proofs.lemmas.Nat.{pow-add}
use Rattle.cls_base.specs.Types.{ClosedType, constructor, product, arrow, meet, nodes, path_count, spread}
use Rattle.cls_base.specs.Types as types
use Rattle.cls_base.specs.Measures.{capped}
use Rattle.cls_base.proofs.Depths.{open_at_within_nodes}
use Rattle.cls_norm.specs.Fit.{IsFit, up_to_fit}

some-nodes : (t : ClosedType) → 1 ≤ nodes t
some-nodes types.omega = omega arith
some-nodes (constructor c s) = omega arith
some-nodes (product s t) = omega arith
some-nodes (arrow s t) = omega arith
some-nodes (meet s t) = omega arith

paths-within-nodes : (t : ClosedType) → path_count t ≤ nodes t
paths-within-nodes types.omega = omega arith
paths-within-nodes (constructor c s) = let h = paths-within-nodes s in omega arith
paths-within-nodes (product s t) = let h = paths-within-nodes s in let k = paths-within-nodes t in omega arith
paths-within-nodes (arrow s t) = let k = paths-within-nodes t in omega arith
paths-within-nodes (meet s t) = let h = paths-within-nodes s in let k = paths-within-nodes t in omega arith

below-power : (n : ℕ) → n + 1 ≤ 2 ^ n
below-power zero = omega arith
below-power (suc n) = let h = below-power n in omega (arith, two-pow-succ n)

power-of-two : (m n : ℕ) → 2 ^ (1 + m + n) ≡ 2 * (2 ^ m * 2 ^ n)
power-of-two m n =
    let e : 2 ^ (1 + m + n) ≡ 2 ^ (1 + (m + n)) = ap (λ k. 2 ^ k) (omega arith) in
    e ∙ (pow-add 2 1 (m + n) ∙ ap (λ k. 2 * k) (pow-add 2 m n))

-- one of the two numbers, and both together, beside their product
beside : (a b : ℕ) → 2 ≤ a → 2 ≤ b → (a + b ≤ a * b)
beside a b h k =
    let x = mul-le-mul_left a k in
    let y = mul-le-mul_right b h in
    omega (arith, x, y)

behind : (a b : ℕ) → 1 ≤ a → (b ≤ a * b)
behind a b h = let x = mul-le-mul_right b h in omega (arith, x)

within : (p a q b : ℕ) → p ≤ a → q ≤ b → p * q ≤ a * b
within p a q b h k =
    let x = mul-le-mul_right q h in
    let y = mul-le-mul_left a k in
    omega (arith, x, y)

two-at-least : (t : ClosedType) → 2 ≤ 2 ^ nodes t
two-at-least t = let h = below-power (nodes t) in let k = some-nodes t in omega (arith, h, k)

paths-below : (t : ClosedType) → path_count t + 1 ≤ 2 ^ nodes t
paths-below t = let h = below-power (nodes t) in let k = paths-within-nodes t in omega (arith, h, k)

spread-below : (t : ClosedType) → spread t + 1 ≤ 2 ^ nodes t
spread-below types.omega = omega arith
spread-below (constructor c s) =
    let h = spread-below s in
    let k = paths-below s in
    let l = two-at-least s in
    omega (arith, h, k, l, pow-add 2 1 (nodes s))
spread-below (product s t) =
    let h = spread-below s in
    let k = spread-below t in
    let i = paths-below s in
    let j = paths-below t in
    let m = beside (2 ^ nodes s) (2 ^ nodes t) (two-at-least s) (two-at-least t) in
    omega (arith, h, k, i, j, m, power-of-two (nodes s) (nodes t), two-at-least s, two-at-least t)
spread-below (arrow s t) =
    let h = spread-below s in
    let k = spread-below t in
    let i = paths-below t in
    let m = within (path_count t) (2 ^ nodes t) (1 + spread s) (2 ^ nodes s) (omega arith) (omega arith) in
    let n = behind (2 ^ nodes s) (2 ^ nodes t) (let x = two-at-least s in omega (arith, x)) in
    omega (arith, k, m, n, power-of-two (nodes s) (nodes t))
spread-below (meet s t) =
    let h = spread-below s in
    let k = spread-below t in
    let m = beside (2 ^ nodes s) (2 ^ nodes t) (two-at-least s) (two-at-least t) in
    omega (arith, h, k, m, power-of-two (nodes s) (nodes t))

-- a type of few nodes is fit
pub few_are_fit : (t : ClosedType) → up_to_fit (nodes t) ≤ 13 → IsFit t
few_are_fit t h =
    let n : nodes t ≤ 13 = omega arith in record {
      few = omega arith;
      shallow = let d = open_at_within_nodes 0 t in omega (arith, d);
      narrow = let s = spread-below t in let p = pow-lt {i = nodes t} {j = 14} (omega arith) in omega (arith, s, p);
    }

-- a type of not so few nodes and a small spread is fit, as it is no deeper than it has nodes
pub narrow_are_fit : (t : ClosedType) → up_to_fit (nodes t) ≤ 64 → capped (spread t) ≤ 16384 → IsFit t
narrow_are_fit t h s = record {
  few = omega arith;
  shallow = let d = open_at_within_nodes 0 t in omega (arith, d);
  narrow = omega arith;
}

pub wide_is_unfit : (t : ClosedType) → 16384 < capped (spread t) → IsFit t → ⊥
wide_is_unfit t h f = let n = f.narrow in absurd (omega arith)
