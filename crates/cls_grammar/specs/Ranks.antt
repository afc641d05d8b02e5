-- Which nodes of a rule book are productive, and their ranks.
use Rattle.std.specs.Prelude.{ℕ, suc, ◌≡◌, ◌<◌, ◌↔◌, Bool, IsTrue, List, [], ◌∷◌, length, Option, Some, None, slice_get}
use Rattle.cls_base.specs.declared.rule.Rule.{Rule}
use Rattle.cls_base.specs.declared.rule.Rule.TheVariants.{Head, Any}
use Rattle.cls_base.specs.Languages.{NodeRule}

-- IsRule i r says that r is a rule of i
module _ (N : Type 0) (IsRule : N → Rule N → Type 0) where
  mutual
    -- there is a derivation tree of at most this height
    pub data HasTree : ℕ → N → Type 0 where
      head_tree : {h : ℕ} {i : N} {x : ℕ} {ns : List N} → IsRule i (Head x ns) → HaveTrees h ns → HasTree (suc h) i
      any_tree : {h : ℕ} {i l m : N} → IsRule i (Any l m) → HasTree h l → HasTree h m → HasTree (suc h) i

    pub data HaveTrees : ℕ → List N → Type 0 where
      no_trees : {h : ℕ} → HaveTrees h []
      more_trees : {h : ℕ} {n : N} {ns : List N} → HasTree h n → HaveTrees h ns → HaveTrees h (n ∷ ns)

  abbrev pub IsProductive : N → Type 0
  IsProductive i = (h : ℕ) × HasTree h i

  -- the least height of a derivation tree
  pub record IsRank (i : N) (h : ℕ) : Type 0 where
    pub tree : HasTree h i
    pub none_less : (k : ℕ) → k < h → HasTree k i → ⊥

module _ (book : List (List (Rule ℕ))) where
  abbrev pub IsProductiveIn : ℕ → Type 0
  IsProductiveIn i = IsProductive ℕ (NodeRule book) i

  abbrev pub IsRankIn : ℕ → Option ℕ → Type 0
  IsRankIn i None = IsProductiveIn i → ⊥
  IsRankIn i (Some h) = IsRank ℕ (NodeRule book) i h

  -- the rank of each node, none of one that isn't productive
  pub record AreRanks (ranks : List (Option ℕ)) : Type 0 where
    pub count : length ranks ≡ length book
    pub each : (i : ℕ) (rank : Option ℕ) → slice_get ranks i ≡ Some rank → IsRankIn i rank

  -- whether each node is productive
  pub record AreProductive (flags : List Bool) : Type 0 where
    pub count : length flags ≡ length book
    pub each : (i : ℕ) (flag : Bool) → slice_get flags i ≡ Some flag → IsTrue flag ↔ IsProductiveIn i
