-- One more type is chosen, by a number or as the largest.
use Rattle.std.proofs.Common.{◌≡◌, ℕ, ◌+◌, ◌*◌, ◌/◌, ◌%◌, ◌<◌, ◌≤◌, List, [], ◌∷◌, ◌++◌, length, map, take, get_or, refl, sym, subst, ap, ◌∙◌, arith}
use Rattle.std.specs.Prelude.{All}
use Rattle.std.proofs.lemmas.List.{get_or-map, length-map, map_more}
use Rattle.std.proofs.lemmas.List.Elements.{All-map}
use Rattle.cls_base.specs.Limits.{max_instances}
use Rattle.cls_base.specs.declared.ty.Ty.{Ty}
use Rattle.cls_base.specs.Ty.{type_of}
use Rattle.cls_base.specs.Types.{ClosedType}
use Rattle.cls_kind.specs.declared.ranges.Range.{Range}
use Rattle.cls_kind.specs.Instances.{count_of, AreFull}
use Rattle.cls_kind.specs.Ranges.{AreLargest, capped_nodes, range_of}
use Rattle.cls_kind.proofs.ChoiceLaws as laws
use Rattle.cls_kind.proofs.ChoiceLaws.{Chooses}
use Rattle.cls_kind.proofs.Counting.{Counts, counts-more, counts-many}
use Rattle.cls_kind.proofs.LargestLaws.{largest-more}

module _ (ranges : List Range) (i : ℕ) (r : Range) (at : i < length ranges) (is : r ≡ get_or ranges i r) where
  at-range : i < length (map range_of ranges)
  at-range = let e = length-map ranges range_of in omega arith

  is-range : get_or (map range_of ranges) i (range_of r) ≡ range_of r
  is-range = get_or-map range_of ranges i r (range_of r) at ∙ ap range_of (sym is)

  size : length (range_of r).1 ≡ length r.choices.now
  size = length-map r.choices.now type_of

  module _ (number block rest : ℕ) (done : List (ℕ × ClosedType)) (h : Chooses (map range_of ranges) number i done block rest) where
    pub length-positive : 0 < length r.choices.now
    length-positive = subst (λ n. 0 < n) size (laws.length-positive (map range_of ranges) number i done block rest h (range_of r) at-range is-range)

    pub block-positive : 0 < block / length r.choices.now
    block-positive = subst (λ n. 0 < block / n) size (laws.block-positive (map range_of ranges) number i done block rest h (range_of r) at-range is-range)

    pub number-within : rest / (block / length r.choices.now) < length r.choices.now
    number-within = subst (λ n. rest / (block / n) < n) size (laws.number-within (map range_of ranges) number i done block rest h (range_of r) at-range is-range)

    pub chooses-more : (t : Ty) → Chooses (map range_of ranges) number (i + 1) (done ++ (r.variable, type_of (get_or r.choices.now (rest / (block / length r.choices.now)) t)) ∷ []) (block / length r.choices.now) (rest % (block / length r.choices.now))
    chooses-more t =
        let chosen = get_or r.choices.now (rest / (block / length r.choices.now)) t in
        subst (λ n. Chooses (map range_of ranges) number (i + 1) (done ++ (r.variable, type_of chosen) ∷ []) (block / n) (rest % (block / n))) size
        (laws.chooses-more (map range_of ranges) number i done block rest h (range_of r) at-range is-range (type_of chosen)
        (ap (λ n. get_or (range_of r).1 (rest / (block / n)) (type_of chosen)) size ∙ get_or-map type_of r.choices.now (rest / (block / length r.choices.now)) t (type_of chosen) number-within))

  module _ (count : ℕ) (h : Counts (map range_of ranges) i count) where
    pub counts_more : count * length r.choices.now ≤ max_instances → Counts (map range_of ranges) (i + 1) (count * length r.choices.now)
    counts_more l =
        subst (λ n. Counts (map range_of ranges) (i + 1) (count * n)) size
        (counts-more (map range_of ranges) i count h (range_of r) at-range is-range (subst (λ n. count * n ≤ max_instances) (sym size) l))

    pub counts_many : AreFull (map range_of ranges) → max_instances < count * length r.choices.now → max_instances < count_of (map range_of ranges)
    counts_many full l = counts-many (map range_of ranges) i count h (range_of r) at-range is-range full (subst (λ n. max_instances < count * n) (sym size) l)

  pub filled : AreFull (map range_of ranges) → r.choices.now ≡ [] → ⊥
  filled full e =
      subst (λ (x : ℕ × List ClosedType). x.1 ≡ [] → ⊥) is-range (full i (range_of r) at-range) (ap (map type_of) e)

  pub largest_next :
      (done : List (ℕ × ClosedType)) (t : Ty) → AreLargest (map range_of (take i ranges)) done
      → All (λ x. capped_nodes (type_of x) ≤ capped_nodes (type_of t)) r.choices.now
      → AreLargest (map range_of (take (i + 1) ranges)) (done ++ (r.variable, type_of t) ∷ [])
  largest_next done t h a =
      let before = map range_of (take i ranges) in
      let e : map range_of (take (i + 1) ranges) ≡ before ++ range_of r ∷ [] = map_more range_of ranges i r at ∙ ap (λ (x : Range). before ++ range_of x ∷ []) (sym is) in
      let most : All (λ x. capped_nodes x ≤ capped_nodes (type_of t)) (map type_of r.choices.now) = All-map (λ x. capped_nodes x ≤ capped_nodes (type_of t)) type_of r.choices.now a in
      subst (λ rs. AreLargest rs (done ++ (r.variable, type_of t) ∷ [])) (sym e)
      (largest-more before done (range_of r) (r.variable, type_of t) h refl most)
