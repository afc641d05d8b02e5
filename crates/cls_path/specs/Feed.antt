-- internal: what a path gives to a hasher: one number for each kind and name, so that names are below 2 ^ 32 and kinds are above them
use Rattle.std.specs.Prelude.{ℕ, ◌+◌, List, ◌++◌}
use Rattle.std.specs.Hash as fed
use Rattle.cls_path.specs.Paths.{TypePath, atom, inside, unit, left, right, function, sealed, Paths, none, more, listed}

abbrev mutual
  pub path_writes : TypePath → List (List ℕ)
  path_writes (atom c) = fed.u64 c
  path_writes (inside c p) = fed.u64 (c + 4294967296) ++ path_writes p
  path_writes unit = fed.u64 8589934592
  path_writes (left p) = fed.u64 12884901888 ++ path_writes p
  path_writes (right p) = fed.u64 17179869184 ++ path_writes p
  path_writes (function n p) = fed.u64 21474836480 ++ paths_writes n ++ path_writes p
  path_writes (sealed c n) = fed.u64 (c + 25769803776) ++ paths_writes n

  pub paths_writes : Paths → List (List ℕ)
  paths_writes none = fed.u64 30064771072
  paths_writes (more p n) = path_writes p ++ paths_writes n

abbrev pub list_writes : List TypePath → List (List ℕ)
list_writes ps = paths_writes (listed ps)
