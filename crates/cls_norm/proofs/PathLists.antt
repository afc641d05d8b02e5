-- Lists of paths in code and in the mathematics.
use Rattle.std.proofs.Common.{◌≡◌, refl, ◌∙◌, ap, ℕ, List, [], ◌∷◌, ◌++◌}
use Rattle.std.specs.Prelude.{map}
use Rattle.cls_path.specs.Paths.{TypePath, atom, inside, unit, left, right, more, append, map_paths, or_one, listed}
use Rattle.cls_path.proofs.Remains.{listed-append}
use Rattle.cls_norm.specs.PathLists.{or_else}

pub listed-map : (f : TypePath → TypePath) (n : List TypePath) → listed (map f n) ≡ map_paths f (listed n)
listed-map f [] = refl
listed-map f (p ∷ n) = ap (more (f p)) (listed-map f n)

pub listed-or_else : (p : TypePath) (n : List TypePath) → listed (or_else p n) ≡ or_one p (listed n)
listed-or_else p [] = refl
listed-or_else p (q ∷ n) = refl

pub listed-inside : (c : ℕ) (n : List TypePath) → listed (or_else (atom c) (map (inside c) n)) ≡ or_one (atom c) (map_paths (inside c) (listed n))
listed-inside c n = listed-or_else (atom c) (map (inside c) n) ∙ ap (or_one (atom c)) (listed-map (inside c) n)

pub listed-product : (n m : List TypePath) → listed (or_else unit (map left n ++ map right m)) ≡ or_one unit (append (map_paths left (listed n)) (map_paths right (listed m)))
listed-product n m = listed-or_else unit (map left n ++ map right m) ∙ ap (or_one unit) (listed-append (map left n) (map right m) ∙ (λ i. append (listed-map left n i) (listed-map right m i)))
