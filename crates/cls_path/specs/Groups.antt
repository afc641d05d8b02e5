-- internal: paths in groups, such that no path is below one of another group. So the least paths of each group are those of all.
use Rattle.std.specs.Prelude.{ℕ, ◌≡◌, ◌⊎◌, ◌↔◌, Bool, false, ◌||◌, List, [], ◌∷◌, Contains}
use Rattle.std.specs.List.{IsDistinct}
use Rattle.cls_base.specs.Taxonomies.{Variance}
use Rattle.cls_base.specs.Taxa.{Below}
use Rattle.cls_path.specs.Paths.{TypePath, PathsLe, listed}
use Rattle.cls_path.specs.Tests.{path_below}
use Rattle.cls_path.specs.declared.label.GroupKey.{GroupKey}

-- the path stands in one of the groups
abbrev pub Holds : List (List TypePath) → TypePath → Type 0
Holds [] p = ⊥
Holds (g ∷ gs) p = Contains g p ⊎ Holds gs p

-- each group has the paths of one key
abbrev pub AreKeyed : (TypePath → GroupKey) → List GroupKey → List (List TypePath) → Type 0
AreKeyed key [] [] = Unit {0}
AreKeyed key (k ∷ ks) (g ∷ gs) =
    ((p : TypePath) → Contains g p → key p ≡ k) × ((p : TypePath) → Holds gs p → key p ≡ k → ⊥) × AreKeyed key ks gs
AreKeyed key _ _ = ⊥

module _ (test : ℕ → ℕ → Bool) (variance : ℕ → Variance) where
  -- one is below the other
  abbrev pub comparable : TypePath → TypePath → Bool
  comparable p q = path_below test variance p q || path_below test variance q p

  -- no path of a group is comparable with one of a later group
  abbrev pub AreApart : List (List TypePath) → Type 0
  AreApart [] = Unit {0}
  AreApart (g ∷ gs) = ((p q : TypePath) → Contains g p → Holds gs q → comparable p q ≡ false) × AreApart gs

  -- the groups have the paths
  pub record AreGroups (paths : List TypePath) (groups : List (List TypePath)) : Type 0 where
    pub same : (p : TypePath) → Holds groups p ↔ Contains paths p
    pub apart : AreApart groups

  -- some of the paths, none below another, and below each path is one of them
  pub record IsReduced (paths out : List TypePath) : Type 0 where
    pub within : (p : TypePath) → Contains out p → Contains paths p
    pub apart : IsDistinct comparable out
    pub lower : PathsLe (Below test) variance (listed out) (listed paths)

  -- some of the paths, and below each path is one of them
  pub record IsCleared (paths rest : List TypePath) : Type 0 where
    pub within : (p : TypePath) → Contains rest p → Contains paths p
    pub lower : PathsLe (Below test) variance (listed rest) (listed paths)
