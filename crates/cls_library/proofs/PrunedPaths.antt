-- A pruned type has the paths of the type.
use Rattle.std.proofs.Common.{◌≡◌, refl, sym, ◌∙◌, ap, ℕ}
use Rattle.cls_base.specs.Types as types
use Rattle.cls_base.specs.Types.{ClosedType, constructor, product, arrow, meet}
use Rattle.cls_base.specs.Taxonomies.{Variance}
use Rattle.cls_path.specs.Paths.{unit, left, right, function, append, map_paths, or_one, constructor_paths, paths_of}
use Rattle.cls_norm.proofs.Steps.{append_none}
use Rattle.cls_kind.specs.Pruned.{arrow_to, meet_of, pruned}

arrow-paths : (v : ℕ → Variance) (s t : ClosedType) → paths_of v (arrow_to s t) ≡ map_paths (function (paths_of v s)) (paths_of v t)
unfolding arrow_to
arrow-paths v s types.omega = refl
arrow-paths v s t = refl

meet-paths : (v : ℕ → Variance) (s t : ClosedType) → paths_of v (meet_of s t) ≡ append (paths_of v s) (paths_of v t)
unfolding meet_of
meet-paths v types.omega t = refl
meet-paths v s types.omega = sym (append_none (paths_of v s))
meet-paths v s t = refl

pub paths-pruned : (v : ℕ → Variance) (t : ClosedType) → paths_of v (pruned t) ≡ paths_of v t
paths-pruned v types.omega = refl
paths-pruned v (constructor c s) = ap (constructor_paths (v c) c) (paths-pruned v s)
paths-pruned v (product s t) = λ i. or_one unit (append (map_paths left (paths-pruned v s i)) (map_paths right (paths-pruned v t i)))
paths-pruned v (arrow s t) = arrow-paths v (pruned s) (pruned t) ∙ (λ i. map_paths (function (paths-pruned v s i)) (paths-pruned v t i))
paths-pruned v (meet s t) = meet-paths v (pruned s) (pruned t) ∙ (λ i. append (paths-pruned v s i) (paths-pruned v t i))
