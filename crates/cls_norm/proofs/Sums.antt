-- The paths and the spread of an intersection of paths.
use Rattle.std.proofs.Common.{◌≡◌, refl, ℕ, ◌+◌, arith}
use Rattle.cls_base.specs.Types.{ClosedType, meet, path_count, spread}
use Rattle.cls_path.specs.Paths.{Paths, none, more, type_of_path, type_of_paths, meets}

abbrev pub paths_in : Paths → ℕ
paths_in none = 0
paths_in (more p n) = path_count (type_of_path p) + paths_in n

abbrev pub spread_in : Paths → ℕ
spread_in none = 0
spread_in (more p n) = spread (type_of_path p) + spread_in n

paths-meets : (s : ClosedType) (n : Paths) → path_count (meets s n) ≡ path_count s + paths_in n
paths-meets s none = omega arith
paths-meets s (more p n) = let e = paths-meets (meet s (type_of_path p)) n in omega arith

spread-meets : (s : ClosedType) (n : Paths) → spread (meets s n) ≡ spread s + spread_in n
spread-meets s none = omega arith
spread-meets s (more p n) = let e = spread-meets (meet s (type_of_path p)) n in omega arith

pub paths-listed : (n : Paths) → path_count (type_of_paths n) ≡ paths_in n
paths-listed none = refl
paths-listed (more p n) = paths-meets (type_of_path p) n

pub spread-listed : (n : Paths) → spread (type_of_paths n) ≡ spread_in n
spread-listed none = refl
spread-listed (more p n) = spread-meets (type_of_path p) n
