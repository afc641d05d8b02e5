-- Ranks of goals, and the rules by which they have them.
use Rattle.std.proofs.Common.{ℕ, zero, suc, ◌≡◌, ◌<◌, ◌≤◌, refl, sym, ◌∙◌, subst, ap, inl, inr, true, false, List, [], ◌∷◌, length, get_or, arith, Contains, Option, Some, None}
use Rattle.std.specs.Prelude.{slice_get, is_some}
use Rattle.std.proofs.lemmas.List.{get_or_past}
use native.Mathlib.Decide.{dec_lt}
use Rattle.cls_base.specs.declared.rule.Rule.{Rule}
use Rattle.cls_base.specs.declared.rule.Rule.TheVariants.{Head, Any}
use Rattle.cls_base.specs.Languages.{NodeRule, rules_at}
use Rattle.cls_base.proofs.Lists.{Contains-nil, Contains-cases, Contains-place}
use Rattle.cls_grammar.specs.Ranks.{HasTree, HaveTrees, head_tree, any_tree, no_trees, more_trees, IsProductiveIn, IsRank, AreRanks}
use Rattle.cls_cert.specs.Building.{HaveLess, HasLess}
use Rattle.cls_cert.proofs.Lists.{got_within}

module _ (book : List (List (Rule ℕ))) where
  abbrev Tree : ℕ → ℕ → Type 0
  Tree h i = HasTree ℕ (NodeRule book) h i

  abbrev Rank : ℕ → ℕ → Type 0
  Rank i h = IsRank ℕ (NodeRule book) i h

  rule_below : (i : ℕ) (r : Rule ℕ) → NodeRule book i r → i < length book
  rule_below i r m = go (dec_lt i (length book))
    where
      go : Dec (i < length book) → i < length book
      go (yes l) = l
      go (no n) = absurd (Contains-nil r (subst (λ (rs : List (Rule ℕ)). Contains rs r) (get_or_past book i [] (omega arith)) m))

  pub tree_below : (h i : ℕ) → Tree h i → i < length book
  tree_below zero i t = elim t [ ]
  tree_below (suc h) i (head_tree {x = x} {ns = ns} r ts) = rule_below i (Head x ns) r
  tree_below (suc h) i (any_tree {l = l} {m = m} r s t) = rule_below i (Any l m) r

  pub rank_same : (i h k : ℕ) → Rank i h → Rank i k → h ≡ k
  rank_same i h k r s = equal (λ l. r.none_less k l s.tree) (λ l. s.none_less h l r.tree)
    where
      equal : (k < h → ⊥) → (h < k → ⊥) → h ≡ k
      equal u v = omega arith

  module _ (ranks : List (Option ℕ)) (are : AreRanks book ranks) where
    found : (i : ℕ) (o : Option (Option ℕ)) → slice_get ranks i ≡ o → i < length book → (h : ℕ) → Tree h i → (k : ℕ) × (slice_get ranks i ≡ Some (Some k)) × Rank i k × (k ≤ h)
    found i None e l h t = absurd (let n = are.count in let f = got_within ranks i None (omega arith) in let g : ◌≡◌ {A = Option (Option ℕ)} None (Some (get_or ranks i None)) = sym e ∙ f in cc)
    found i (Some None) e l h t = absurd (are.each i None e (h, t))
    found i (Some (Some k)) e l h t = let r : Rank i k = are.each i (Some k) e in (k, e, r, least k h (λ j. r.none_less h j t))
      where
        least : (k h : ℕ) → (h < k → ⊥) → k ≤ h
        least k h f = omega arith

    -- a goal with a tree has a rank
    pub rank_found : (i h : ℕ) → Tree h i → (k : ℕ) × (slice_get ranks i ≡ Some (Some k)) × Rank i k × (k ≤ h)
    rank_found i h t = found i (slice_get ranks i) refl (tree_below h i t) h t

    pub rank_there : (i k : ℕ) → Rank i k → slice_get ranks i ≡ Some (Some k)
    rank_there i k r = let f = rank_found i k r.tree in f.1 ∙ ap (λ (n : ℕ). Some (Some n)) (rank_same i f.0 k f.2 r)

    pub rank_is : (i k : ℕ) → slice_get ranks i ≡ Some (Some k) → Rank i k
    rank_is i k e = are.each i (Some k) e

    abbrev Lower : ℕ → List ℕ → Type 0
    Lower h ns = (i : ℕ) → Contains ns i → (k : ℕ) × Rank i k × (k < h)

    pub less_lower : (h : ℕ) (ns : List ℕ) → HaveLess ranks h ns → Lower h ns
    less_lower h ns f = λ i m. let r = f i m in (r.0, rank_is i r.0 r.1, r.2)

    pub lower_less : (h : ℕ) (ns : List ℕ) → Lower h ns → HaveLess ranks h ns
    lower_less h ns f = λ i m. let r = f i m in (r.0, rank_there i r.0 r.1, r.2)

    trees_less : (h : ℕ) (ns : List ℕ) → HaveTrees ℕ (NodeRule book) h ns → HaveLess ranks (suc h) ns
    trees_less h [] no_trees i m = absurd (Contains-nil i m)
    trees_less h (n ∷ ns) (more_trees t ts) i m = elim (Contains-cases n ns i m) [
      | inl e ↦ (let f = rank_found i h (subst (λ (j : ℕ). Tree h j) (sym e) t) in let l : f.0 ≤ h = f.3 in (f.0, f.1, (omega arith)))
      | inr k ↦ trees_less h ns ts i k
    ]

    pair_less : (h l m : ℕ) → Tree h l → Tree h m → HaveLess ranks (suc h) (l ∷ m ∷ [])
    pair_less h l m s t = trees_less h (l ∷ m ∷ []) (more_trees s (more_trees t no_trees))

    -- a goal has a rule whose arguments have lower ranks
    pub lower_rule : (h i : ℕ) → Tree h i → (r : Rule ℕ) × NodeRule book i r × HasLess ranks h r
    lower_rule zero i t = elim t [ ]
    lower_rule (suc h) i (head_tree {x = x} {ns = ns} r ts) = (Head x ns, r, trees_less h ns ts)
    lower_rule (suc h) i (any_tree {l = l} {m = m} r s t) = (Any l m, r, pair_less h l m s t)

    -- so one of its rules is found
    pub rule_found : (h i : ℕ) (rules : List (Rule ℕ)) → rules ≡ rules_at book i → Rank i h → ((j : ℕ) (r : Rule ℕ) → slice_get rules j ≡ Some r → HasLess ranks h r → ⊥) → ⊥
    rule_found h i rules e k f =
        let u = lower_rule h i k.tree in
        let p = Contains-place rules u.0 (subst (λ (rs : List (Rule ℕ)). Contains rs u.0) (sym e) u.1) in
        f p.0 u.0 p.1 u.2

    -- which goals are productive
    pub with_rank : (i : ℕ) (o : Option ℕ) → slice_get ranks i ≡ Some o → is_some o ≡ true → IsProductiveIn book i
    with_rank i None e f = absurd (let g : false ≡ true = f in cc)
    with_rank i (Some k) e f = (k, (rank_is i k e).tree)

    pub without_rank : (i : ℕ) (o : Option ℕ) → slice_get ranks i ≡ Some o → is_some o ≡ false → IsProductiveIn book i → ⊥
    without_rank i None e f = are.each i None e
    without_rank i (Some k) e f = absurd (let g : true ≡ false = f in cc)
