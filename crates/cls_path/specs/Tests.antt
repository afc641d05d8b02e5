-- The tests of paths and lists as the code computes them. That they decide the relations is proved.
use Rattle.std.specs.Prelude.{ℕ, Bool, true, false, ◌&&◌, ◌||◌}
use Rattle.std.specs.Ordering.{is_eq}
use Rattle.cls_base.specs.Taxonomies.{Variance, covariant, contravariant, invariant}
use Rattle.cls_path.specs.Paths.{TypePath, atom, inside, unit, left, right, function, sealed, Paths, none, more}
use Rattle.cls_path.specs.PathOrder.{paths_order}

-- some path of the list passes
abbrev pub some_passes : (TypePath → Bool) → Paths → Bool
some_passes f none = false
some_passes f (more p n) = f p || some_passes f n

-- each path of the list passes
abbrev pub each_passes : (TypePath → Bool) → Paths → Bool
each_passes f none = true
each_passes f (more p n) = f p && each_passes f n

abbrev pub same_paths : Paths → Paths → Bool
same_paths n m = is_eq (paths_order n m)

-- Under names of the variance: the lists are equal, the upper one is below the lower one, the lower one below the upper one.
abbrev pub sealed_below : Variance → Bool → Bool → Bool → Bool
sealed_below covariant same down up = false
sealed_below contravariant same down up = down
sealed_below invariant same down up = same || (down && up)

module _ (test : ℕ → ℕ → Bool) (variance : ℕ → Variance) where
  -- Each function goes down its first argument, whichever way lists are compared inside.
  abbrev mutual
    -- the first is below the second
    pub path_below : TypePath → TypePath → Bool
    path_below (atom c) (atom d) = test c d
    path_below (inside c p) (atom d) = test c d
    path_below (inside c p) (inside d q) = test c d && path_below p q
    path_below unit unit = true
    path_below (left p) unit = true
    path_below (right p) unit = true
    path_below (left p) (left q) = path_below p q
    path_below (right p) (right q) = path_below p q
    path_below (function n p) (function m q) = path_below p q && each_above n m
    path_below (sealed c n) (sealed d m) =
        test c d && sealed_below (variance c) (same_paths n m) (each_above n m) (each_passes (λ q. some_below n q) m)
    path_below _ _ = false

    -- the first is above the second
    pub path_above : TypePath → TypePath → Bool
    path_above (atom d) (atom c) = test c d
    path_above (atom d) (inside c p) = test c d
    path_above (inside d q) (inside c p) = test c d && path_above q p
    path_above unit unit = true
    path_above unit (left p) = true
    path_above unit (right p) = true
    path_above (left q) (left p) = path_above q p
    path_above (right q) (right p) = path_above q p
    path_above (function m q) (function n p) = path_above q p && each_passes (λ r. some_below m r) n
    path_above (sealed d m) (sealed c n) =
        test c d && sealed_below (variance c) (same_paths n m) (each_passes (λ r. some_below m r) n) (each_above m n)
    path_above _ _ = false

    -- each path of the first list is above some path of the second
    pub each_above : Paths → Paths → Bool
    each_above none n = true
    each_above (more q m) n = some_passes (λ p. path_above q p) n && each_above m n

    -- some path of the list is below the path
    pub some_below : Paths → TypePath → Bool
    some_below none q = false
    some_below (more p n) q = path_below p q || some_below n q

  -- each path of the second list is above some path of the first
  abbrev pub list_below : Paths → Paths → Bool
  list_below n none = true
  list_below n (more q m) = some_below n q && list_below n m
