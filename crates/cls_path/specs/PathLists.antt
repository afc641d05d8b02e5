-- internal: lists of paths that a type falls into, on the way to its normal form
use Rattle.std.specs.Prelude.{ℕ}
use Rattle.cls_base.specs.Types.{ClosedType}
use Rattle.cls_base.specs.Taxonomies.{Variance}
use Rattle.cls_path.specs.Paths.{Paths, PathsLe, paths_of, SuitsAll}
use Rattle.cls_path.specs.NormalForms.{EachCanonical}

module _ (below : ℕ → ℕ → Type 0) (variance : ℕ → Variance) where
  -- Paths whose intersection is the type. They need not be sorted, but the lists inside them are canonical.
  pub record ArePathsOf (t : ClosedType) (n : Paths) : Type 0 where
    pub suits : SuitsAll variance n
    pub canonical : EachCanonical below variance n
    pub lower : PathsLe below variance n (paths_of variance t)
    pub upper : PathsLe below variance (paths_of variance t) n
