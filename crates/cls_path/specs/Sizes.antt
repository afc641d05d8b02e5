-- internal: how large a path is. Each call that goes down a path stands on it.
use Rattle.std.specs.Prelude.{ℕ, ◌+◌, List, [], ◌∷◌}
use Rattle.cls_path.specs.Paths.{TypePath, atom, inside, unit, left, right, function, sealed, Paths, none, more}

abbrev mutual
  pub size_of : TypePath → ℕ
  size_of (atom c) = 1
  size_of (inside c p) = size_of p + 1
  size_of unit = 1
  size_of (left p) = size_of p + 1
  size_of (right p) = size_of p + 1
  size_of (function n p) = sizes_of n + size_of p + 1
  size_of (sealed c n) = sizes_of n + 1

  pub sizes_of : Paths → ℕ
  sizes_of none = 0
  sizes_of (more p n) = size_of p + sizes_of n + 1

abbrev pub list_size : List TypePath → ℕ
list_size [] = 0
list_size (p ∷ ps) = size_of p + list_size ps + 1
