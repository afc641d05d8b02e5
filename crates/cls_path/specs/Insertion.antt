-- internal: a path put into a list of paths, as the code does it
use Rattle.std.specs.Prelude.{ℕ, Bool, false, List, [], ◌∷◌, ◌||◌, cond, not, filter}
use Rattle.std.specs.Ordering.{is_lt}
use Rattle.cls_base.specs.Taxonomies.{Variance}
use Rattle.cls_path.specs.Paths.{TypePath}
use Rattle.cls_path.specs.PathOrder.{path_order}
use Rattle.cls_path.specs.Tests.{path_below}

-- before the first path that it is before
abbrev pub place : TypePath → List TypePath → List TypePath
place p [] = p ∷ []
place p (q ∷ n) = cond (is_lt (path_order p q)) (p ∷ q ∷ n) (q ∷ place p n)

module _ (test : ℕ → ℕ → Bool) (variance : ℕ → Variance) where
  -- the list without the paths above the path
  abbrev pub without_above : TypePath → List TypePath → List TypePath
  without_above p n = filter (λ q. not (path_below test variance p q)) n

  -- the path is below some path of the list
  abbrev pub some_above : TypePath → List TypePath → Bool
  some_above p [] = false
  some_above p (q ∷ n) = path_below test variance p q || some_above p n
