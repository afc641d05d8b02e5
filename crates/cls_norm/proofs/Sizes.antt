-- A path of a list is smaller than the list.
use Rattle.std.proofs.Common.{◌≡◌, ℕ, zero, suc, ◌≤◌, ◌<◌, List, [], ◌∷◌, length, get_or, take, drop, ◌-◌, arith, ap}
use Rattle.cls_path.specs.Paths.{TypePath}
use Rattle.cls_path.specs.Sizes.{size_of, list_size}

pub size_at : (xs : List TypePath) (i : ℕ) (b : TypePath) → i < length xs → b ≡ get_or xs i b → size_of b < list_size xs
size_at [] i b h e = absurd (omega arith)
size_at (x ∷ xs) zero b h e = omega (arith, ap size_of e)
size_at (x ∷ xs) (suc i) b h e = omega (arith, size_at xs i b (omega arith) e)

pub list_size-drop_one : (xs : List TypePath) → list_size (drop 1 xs) ≤ list_size xs
list_size-drop_one [] = omega arith
list_size-drop_one (x ∷ xs) = omega arith

pub list_size-take_le : (n : ℕ) (xs : List TypePath) → list_size (take n xs) ≤ list_size xs
list_size-take_le zero xs = omega arith
list_size-take_le (suc n) [] = omega arith
list_size-take_le (suc n) (x ∷ xs) = omega (arith, list_size-take_le n xs)

-- a path behind the first
pub size_in_rest : (ys xs : List TypePath) (i : ℕ) (b : TypePath) → xs ≡ ys → i < length (take (length xs - 1) (drop 1 xs)) → b ≡ get_or (take (length xs - 1) (drop 1 xs)) i b → size_of b < list_size ys
size_in_rest ys xs i b e h is =
    let rest = take (length xs - 1) (drop 1 xs) in
    omega (arith, size_at rest i b h is, list_size-take_le (length xs - 1) (drop 1 xs), list_size-drop_one xs, ap list_size e)
