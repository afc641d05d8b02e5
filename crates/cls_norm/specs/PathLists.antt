-- internal: the paths of a type that code puts behind others
use Rattle.std.specs.Prelude.{ℕ, ◌≡◌, List, [], ◌∷◌, ◌++◌}
use Rattle.cls_base.specs.Types.{ClosedType}
use Rattle.cls_base.specs.Taxonomies.{Variance}
use Rattle.cls_path.specs.Paths.{TypePath, listed}
use Rattle.cls_path.specs.PathLists.{ArePathsOf}

-- the list, or the path alone if the list is empty
abbrev pub or_else : TypePath → List TypePath → List TypePath
or_else p [] = p ∷ []
or_else p (q ∷ n) = q ∷ n

module _ (below : ℕ → ℕ → Type 0) (variance : ℕ → Variance) where
  -- The new list is the old one with paths of the type behind it.
  pub record PutsPathsOf (t : ClosedType) (old new : List TypePath) : Type 0 where
    pub made : List TypePath
    pub behind : new ≡ old ++ made
    pub paths : ArePathsOf below variance t (listed made)
