-- Steps of raising the least sizes of the nodes.
use Rattle.std.proofs.Common.{◌≡◌, ℕ, ◌+◌, ◌<◌, ◌≤◌, ◌^◌, min, List, [], ◌∷◌, ◌++◌, length, take, reverse, get_or, refl, sym, ap, ◌∙◌, subst, inl, inr, arith}
use Rattle.std.specs.Prelude.{slice_index}
use Rattle.std.proofs.lemmas.Bool.{cases_lt}
use Rattle.std.proofs.lemmas.List.{get_or_past, take_more, reverse-append}
use Rattle.cls_base.proofs.Lists.{take_whole}
use Rattle.cls_enum.proofs.Members.{in_cases, in_left, in_right}
use Rattle.cls_walk.specs.Counts.{HeadRule}
use Rattle.cls_walk.specs.Filled.{forms_at, needs, AreLeast}
use Rattle.cls_walk.specs.Least.{AreWithin, IsLeastOf}
use Rattle.cls_walk.specs.Tables.{capped}
use Rattle.cls_walk.proofs.Capped.{get-push, get-last}
use Rattle.cls_walk.proofs.Filled.{needs-append}

pub needs-reverse : (least ns : List ℕ) → needs least (reverse ns) ≡ needs least ns
needs-reverse least [] = refl
needs-reverse least (n ∷ ns) =
    let p : needs least (reverse (n ∷ ns)) ≡ needs least (reverse ns ++ n ∷ []) = ap (needs least) (reverse-append (n ∷ []) ns) in
    omega (arith, p, needs-append least (reverse ns) (n ∷ []), needs-reverse least ns)

pub size-next : (cost : ℕ) (least ns : List ℕ) (i total x new : ℕ) → i < length ns → total ≡ capped (cost + needs least (take i ns)) → x ≡ slice_index least (get_or ns i 0) → new ≡ capped (total + x) → new ≡ capped (cost + needs least (take (i + 1) ns))
size-next cost least ns i total x new l h q r =
    let n = get_or ns i 0 in
    let b : needs least (take (i + 1) ns) ≡ needs least (take i ns ++ n ∷ []) = ap (needs least) (take_more ns i 0 l) in
    let c = needs-append least (take i ns) (n ∷ []) in
    omega (arith, b, c, h, q, r)

pub size-whole : (cost : ℕ) (least ns : List ℕ) (i total : ℕ) (h : HeadRule) (x : ℕ) → (x, reverse ns) ≡ h → length ns ≤ i → total ≡ capped (cost + needs least (take i ns)) → total ≡ capped (cost + needs least h.1)
size-whole cost least ns i total h x v l p =
    let a : take i ns ≡ ns = take_whole ns i l in
    p ∙ ap (λ (ms : List ℕ). capped (cost + needs least ms)) a ∙ ap (λ (k : ℕ). capped (cost + k)) (sym (needs-reverse least ns)) ∙ ap (λ (g : HeadRule). capped (cost + needs least g.1)) v

pub least-push : (cost : ℕ → ℕ) (least : List ℕ) (most : ℕ) (hs : List HeadRule) (h : HeadRule) (best size new : ℕ) → most < 2 ^ 32 → IsLeastOf cost least most hs best → size ≡ capped (cost h.0 + needs least h.1) → new ≡ min best size → IsLeastOf cost least most (hs ++ h ∷ []) new
least-push cost least most hs h best size new m o p q = record {
  within = (let a = o.within in omega (arith, a, q));
  below = λ g i. elim (in_cases hs (h ∷ []) g i) [
    | inl j ↦ (let a = o.below g j in omega (arith, a, q))
    | inr j ↦ elim j [
      | inl e ↦ (let P : HeadRule → Type 0 = λ z. new ≤ cost z.0 + needs least z.1 in subst P e (omega (arith, p, q)))
      | inr z ↦ absurd z
    ]
  ];
  greatest = λ k l f.
      let a = o.greatest k l (λ g i. f g (in_left hs (h ∷ []) g i)) in
      let b = f h (in_right hs (h ∷ []) h (inl refl)) in
      omega (arith, a, b, p, q, l, m);
}

pub least-next : (cost : ℕ → ℕ) (least : List ℕ) (most : ℕ) (hs : List HeadRule) (i : ℕ) (h : HeadRule) (best size new : ℕ) → i < length hs → h ≡ get_or hs i h → most < 2 ^ 32 → IsLeastOf cost least most (take i hs) best → size ≡ capped (cost h.0 + needs least h.1) → new ≡ min best size → IsLeastOf cost least most (take (i + 1) hs) new
least-next cost least most hs i h best size new l p m o q r =
    let a : take (i + 1) hs ≡ take i hs ++ h ∷ [] = take_more hs i h l ∙ ap (λ (z : HeadRule). take i hs ++ z ∷ []) (sym p) in
    let P : List HeadRule → Type 0 = λ z. IsLeastOf cost least most z new in
    subst P (sym a) (least-push cost least most (take i hs) h best size new m o q r)

module _ (cost : ℕ → ℕ) (forms : List (List HeadRule)) (most : ℕ) (least : List ℕ) where
  -- one more number of a round
  pub round-push : (old new : List ℕ) (x i : ℕ) → new ≡ old ++ x ∷ [] → length old ≡ i → ((n : ℕ) → n < i → IsLeastOf cost least most (forms_at forms n) (slice_index old n)) → IsLeastOf cost least most (forms_at forms i) x → (n : ℕ) → n < i + 1 → IsLeastOf cost least most (forms_at forms n) (slice_index new n)
  round-push old new x i p e h q n l =
      let R : ℕ → Type 0 = λ k. IsLeastOf cost least most (forms_at forms n) k in
      elim (cases_lt n i) [
        | inl m ↦ subst R (sym (ap (λ (xs : List ℕ). slice_index xs n) p ∙ get-push old x n (omega (arith, e, m)))) (h n m)
        | inr m ↦
            let z : i ≡ n = omega arith in
            let S : ℕ → Type 0 = λ k. IsLeastOf cost least most (forms_at forms k) (slice_index new k) in
            let T : ℕ → Type 0 = λ k. IsLeastOf cost least most (forms_at forms i) k in
            subst S z (subst T (sym (ap (λ (xs : List ℕ). slice_index xs i) p ∙ get-last old x i e)) q)
      ]

  module _ (new : List ℕ) (long : length new ≡ length forms) (each : (n : ℕ) → n < length forms → IsLeastOf cost least most (forms_at forms n) (slice_index new n)) where
    past : (n : ℕ) → length forms ≤ n → slice_index new n ≡ 0
    past n l = get_or_past new n 0 (omega (arith, long, l))

    pub round-within : AreWithin (length forms) most new
    round-within = record {
      small = λ n. elim (cases_lt n (length forms)) [ inl l ↦ (each n l).within | inr l ↦ (let z = past n l in omega (arith, z)) ];
      none = past;
    }

    module _ (within : AreWithin (length forms) most least) (sizes : AreLeast forms cost least) where
      raised : (n : ℕ) → slice_index least n ≤ slice_index new n
      raised n = elim (cases_lt n (length forms)) [
        | inl l ↦ (each n l).greatest (slice_index least n) (within.small n) (sizes n)
        | inr l ↦ (let a = within.none n l in omega (arith, a))
      ]

      more-needs : (ns : List ℕ) → needs least ns ≤ needs new ns
      more-needs [] = omega arith
      more-needs (n ∷ ns) = omega (arith, raised n, more-needs ns)

      pub round-sizes : AreLeast forms cost new
      round-sizes n h i = elim (cases_lt n (length forms)) [
        | inl l ↦ (let a = (each n l).below h i in let b = more-needs h.1 in omega (arith, a, b))
        | inr l ↦ (let z = past n l in omega (arith, z))
      ]
