-- Steps of raising the least sizes of the nodes by their head rules and pairs.
use Rattle.std.proofs.Common.{◌≡◌, ℕ, ◌+◌, ◌<◌, ◌≤◌, ◌^◌, min, List, [], ◌∷◌, ◌++◌, length, map, take, get_or, refl, sym, ap, ◌∙◌, subst, inl, inr, arith, Vec, Global}
use Rattle.std.specs.Prelude.{slice_index}
use Rattle.std.proofs.lemmas.Bool.{cases_lt}
use Rattle.std.proofs.lemmas.List.{get_or-map, get_or_past, length-map, map_more, take_more}
use Rattle.cls_base.specs.declared.rule.Rule.{Rule}
use Rattle.cls_base.specs.declared.rule.Rule.TheVariants.{Head, Any}
use Rattle.cls_base.specs.Languages.{NodeRule}
use Rattle.cls_enum.specs.Members.{IsIn}
use Rattle.cls_enum.proofs.Members.{in_cases, in_left, in_right}
use Rattle.cls_walk.specs.Counts.{HeadRule}
use Rattle.cls_walk.specs.FrameBegins.{no_head, heads_in, AreSized, AreTotals}
use Rattle.cls_walk.specs.FrameColumns.{head_of, pair_of, AreRules}
use Rattle.cls_walk.specs.FrameRules.{pairs_in, head_size, pair_size, ArePairsWithin, AreRaised, IsLowest, IsRaised}
use Rattle.cls_walk.specs.Frames.{least_sum}
use Rattle.cls_walk.specs.Tables.{capped}
use Rattle.cls_walk.specs.declared.rules.Head as head
use Rattle.cls_walk.specs.declared.rules.Rules.{Rules}
use Rattle.cls_walk.proofs.FrameRules.{each-more}
use Rattle.cls_walk.proofs.FrameSteps.{head-in, in-head, in-pair, pair-in}

sum-append : (f : ℕ → ℕ) (ns ms : List ℕ) → least_sum f (ns ++ ms) ≡ least_sum f ns + least_sum f ms
sum-append f [] ms = omega arith
sum-append f (n ∷ ns) ms = omega (arith, sum-append f ns ms)

-- one node more of a sum
pub sum-next : (f : ℕ → ℕ) (ns : List ℕ) (i total x new : ℕ) → i < length ns → total ≡ capped (least_sum f (take i ns)) → x ≡ f (get_or ns i 0) → new ≡ capped (total + x) → new ≡ capped (least_sum f (take (i + 1) ns))
sum-next f ns i total x new l h q r =
    let n = get_or ns i 0 in
    let b : least_sum f (take (i + 1) ns) ≡ least_sum f (take i ns ++ n ∷ []) = ap (least_sum f) (take_more ns i 0 l) in
    omega (arith, b, sum-append f (take i ns) (n ∷ []), h, q, r)

-- a cost and a sum
pub size-of : (cost sum total size : ℕ) → total ≡ capped sum → size ≡ capped (cost + total) → size ≡ capped (cost + sum)
size-of cost sum total size p q = omega (arith, p, q)

module _ {A : Type 0} (own : A → ℕ) (most : ℕ) where
  -- of none
  pub lowest-none : IsLowest A own most [] most
  lowest-none = record { within = omega arith; below = λ x i. absurd i; greatest = λ k l f. l }

  lowest-push : (xs : List A) (x : A) (best size new : ℕ) → most < 2 ^ 32 → IsLowest A own most xs best → size ≡ capped (own x) → new ≡ min best size → IsLowest A own most (xs ++ x ∷ []) new
  lowest-push xs x best size new m o p q = record {
    within = (let a = o.within in omega (arith, a, q));
    below = λ y i. elim (in_cases xs (x ∷ []) y i) [
      | inl j ↦ (let a = o.below y j in omega (arith, a, q))
      | inr j ↦ elim j [
        | inl e ↦ (let P : A → Type 0 = λ z. new ≤ own z in subst P e (omega (arith, p, q)))
        | inr z ↦ absurd z
      ]
    ];
    greatest = λ k l f.
        let a = o.greatest k l (λ y i. f y (in_left xs (x ∷ []) y i)) in
        let b = f x (in_right xs (x ∷ []) x (inl refl)) in
        omega (arith, a, b, p, q, l, m);
  }

  -- one more of those that are gone through
  pub lowest-next : {C : Type 0} (f : C → A) (xs : List C) (i : ℕ) (d : C) (best size new : ℕ) → i < length xs → most < 2 ^ 32 → IsLowest A own most (map f (take i xs)) best → size ≡ capped (own (f (get_or xs i d))) → new ≡ min best size → IsLowest A own most (map f (take (i + 1) xs)) new
  lowest-next f xs i d best size new l m o q r =
      let P : List A → Type 0 = λ z. IsLowest A own most z new in
      subst P (sym (map_more f xs i d l)) (lowest-push (map f (take i xs)) (f (get_or xs i d)) best size new m o q r)

module _ (book : List (List (Rule ℕ))) (cost : ℕ → ℕ) (count most : ℕ) where
  -- each size is 1
  pub raised-start : (least : List ℕ) → ((x : ℕ) → 1 ≤ cost x) → ArePairsWithin book → length book ≤ count → 1 ≤ most → length least ≡ count → ((n : ℕ) → n < count → slice_index least n ≡ 1) → AreRaised book cost count most least
  raised-start least positive within long some e one = record {
    long = e;
    small = λ n. (let a = at-most n in omega (arith, a, some));
    some = λ n l. (let a = one n l in omega (arith, a));
    sizes = record {
      heads = λ n x ns c. (let a = at-most n in let b = positive x in omega (arith, a, b));
      pairs = λ n l m c. (let a = at-most n in let w = (within n l m c).0 in let b = one l (omega (arith, w, long)) in omega (arith, a, b));
    };
  }
    where
      at-most : (n : ℕ) → slice_index least n ≤ 1
      at-most n = elim (cases_lt n count) [
        | inl l ↦ (let a = one n l in omega (arith, a))
        | inr l ↦ (let a : slice_index least n ≡ 0 = get_or_past least n 0 (omega (arith, e, l)) in omega (arith, a))
      ]

  -- one round more
  module _ (rules : Rules) (right : AreRules book rules) (least new : List ℕ) (old : AreRaised book cost count most least) (long : length new ≡ count)
      (each : (n : ℕ) → n < count → IsRaised cost least most (map head_of (heads_in rules n)) (map pair_of (pairs_in rules n)) (slice_index new n)) where
    past : (xs : List ℕ) (n : ℕ) → length xs ≡ count → count ≤ n → slice_index xs n ≡ 0
    past xs n e l = get_or_past xs n 0 (omega (arith, e, l))

    -- by a rule of the node
    by-head : (n x : ℕ) (ns : List ℕ) → n < count → NodeRule book n (Head x ns) → slice_index new n ≤ cost x + least_sum (slice_index least) ns
    by-head n x ns l c =
        let P : List HeadRule → Type 0 = λ hs. IsIn hs (x, ns) in
        let r = each n l in
        let a = r.by_head.below (x, ns) (subst P (sym (right.heads n)) (head-in book n x ns c)) in
        let b = r.by_pair.within in
        omega (arith, a, b)

    by-pair : (n a b : ℕ) → n < count → NodeRule book n (Any a b) → slice_index new n ≤ slice_index least a + slice_index least b
    by-pair n a b l c =
        let P : List (ℕ × ℕ) → Type 0 = λ ps. IsIn ps (a, b) in
        (each n l).by_pair.below (a, b) (subst P (sym (right.pairs n)) (pair-in book n a b c))

    -- no size falls
    risen-head : (n : ℕ) (h : HeadRule) → IsIn (map head_of (heads_in rules n)) h → slice_index least n ≤ head_size cost least h
    risen-head n h i =
        let P : List HeadRule → Type 0 = λ hs. IsIn hs h in
        old.sizes.heads n h.0 h.1 (in-head book n h (subst P (right.heads n) i))

    risen-pair : (n : ℕ) (p : ℕ × ℕ) → IsIn (map pair_of (pairs_in rules n)) p → slice_index least n ≤ pair_size least p
    risen-pair n p i =
        let P : List (ℕ × ℕ) → Type 0 = λ ps. IsIn ps p in
        old.sizes.pairs n p.0 p.1 (in-pair book n p (subst P (right.pairs n) i))

    risen : (n : ℕ) → slice_index least n ≤ slice_index new n
    risen n = elim (cases_lt n count) [
      | inl l ↦ (
          let r = each n l in
          r.by_pair.greatest (slice_index least n) (r.by_head.greatest (slice_index least n) (old.small n) (risen-head n)) (risen-pair n))
      | inr l ↦ (let a = past least n old.long l in omega (arith, a))
    ]

    risen-sum : (ns : List ℕ) → least_sum (slice_index least) ns ≤ least_sum (slice_index new) ns
    risen-sum [] = omega arith
    risen-sum (n ∷ ns) = omega (arith, risen n, risen-sum ns)

    small-new : (n : ℕ) → slice_index new n ≤ most
    small-new n = elim (cases_lt n count) [
      | inl l ↦ (let r = each n l in let a = r.by_pair.within in let b = r.by_head.within in omega (arith, a, b))
      | inr l ↦ (let a = past new n long l in omega (arith, a))
    ]

    pub raised-more : AreRaised book cost count most new
    raised-more = record {
      long = long;
      small = small-new;
      some = λ n l. (let a = old.some n l in let b = risen n in omega (arith, a, b));
      sizes = record {
        heads = λ n x ns c. elim (cases_lt n count) [
          | inl l ↦ (let a = by-head n x ns l c in let b = risen-sum ns in omega (arith, a, b))
          | inr l ↦ (let a = past new n long l in omega (arith, a))
        ];
        pairs = λ n a b c. elim (cases_lt n count) [
          | inl l ↦ (let d = by-pair n a b l c in let e = risen a in let f = risen b in omega (arith, d, e, f))
          | inr l ↦ (let d = past new n long l in omega (arith, d))
        ];
      };
    }

-- what one head rule more comes to
pub totals-next : (own : HeadRule → ℕ) (heads : List head.Head) (i : ℕ) (old new : List ℕ) (x : ℕ) → new ≡ old ++ x ∷ [] → length old ≡ i → ((n : ℕ) → n < i → slice_index old n ≡ capped (own (head_of (get_or heads n no_head)))) → x ≡ capped (own (head_of (get_or heads i no_head))) → (n : ℕ) → n < i + 1 → slice_index new n ≡ capped (own (head_of (get_or heads n no_head)))
totals-next own heads i old new x p e h q = each-more (λ n y. y ≡ capped (own (head_of (get_or heads n no_head)))) 0 old new x i p e h q

-- the head rules of a node at their place
pub heads-here : (r : Rules) (vs : List (Vec head.Head Global)) (i : ℕ) (v : Vec head.Head Global) (hs : List head.Head) → vs ≡ r.heads.items → i < length vs → v ≡ get_or vs i v → hs ≡ v.items → hs ≡ heads_in r i
heads-here r vs i v hs e w p q =
    let f : Vec head.Head Global → List head.Head = λ z. z.items in
    q ∙ ap f p ∙ sym (get_or-map f vs i v [] w) ∙ ap (λ (zs : List (Vec head.Head Global)). get_or (map f zs) i []) e

-- past the last node there are no head rules
totals-past : (own : HeadRule → ℕ) (r : Rules) (i n : ℕ) (sizes : List ℕ) → length r.heads.items ≤ i → i ≤ n → AreTotals own (heads_in r n) sizes
totals-past own r i n sizes l m = let P : List head.Head → Type 0 = λ hs. AreTotals own hs sizes in subst P (sym (none-past r n (omega (arith, l, m)))) (λ k w. absurd (omega (arith, w)))
  where
    none-past : (r : Rules) (n : ℕ) → length r.heads.items ≤ n → heads_in r n ≡ []
    none-past r n l = get_or_past (map (λ v. v.items) r.heads.items) n [] (omega (arith, l, length-map r.heads.items (λ v. v.items)))

-- what those of all nodes come to
pub sized-whole : (own : HeadRule → ℕ) (r : Rules) (i : ℕ) (sizes : List (List ℕ)) → length r.heads.items ≤ i → ((n : ℕ) → n < i → AreTotals own (heads_in r n) (get_or sizes n [])) → AreSized own r sizes
sized-whole own r i sizes l h n = elim (cases_lt n i) [ inl m ↦ h n m | inr m ↦ totals-past own r i n (get_or sizes n []) l m ]
