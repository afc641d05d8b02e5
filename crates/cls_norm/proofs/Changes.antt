-- A list of paths that are changed in place, from one place up to another.
use Rattle.std.proofs.Common.{◌≡◌, refl, ◌∙◌, ap, ℕ, zero, suc, ◌+◌, ◌≤◌, ◌<◌, arith, List, [], ◌∷◌, ◌++◌, length, take, drop, get_or}
use Rattle.std.proofs.Math.ListN.{set}
use Rattle.std.specs.Prelude.{map}
use Rattle.cls_path.specs.Paths.{TypePath}
use Rattle.cls_norm.specs.PathLists.{or_else}

unfoldable pub changed : (TypePath → TypePath) → ℕ → ℕ → List TypePath → List TypePath
changed f start place [] = []
changed f zero zero (x ∷ xs) = x ∷ xs
changed f zero (suc place) (x ∷ xs) = f x ∷ changed f zero place xs
changed f (suc start) zero (x ∷ xs) = x ∷ xs
changed f (suc start) (suc place) (x ∷ xs) = x ∷ changed f start place xs

pub changed-none : (f : TypePath → TypePath) (start : ℕ) (xs : List TypePath) → xs ≡ changed f start start xs
unfolding changed
changed-none f start [] = refl
changed-none f zero (x ∷ xs) = refl
changed-none f (suc start) (x ∷ xs) = ap (λ l. x ∷ l) (changed-none f start xs)

pub changed-all :
    (f : TypePath → TypePath) (start place : ℕ) (xs : List TypePath) → start ≤ length xs → length xs ≤ place
    → changed f start place xs ≡ take start xs ++ map f (drop start xs)
unfolding changed
changed-all f zero place [] h k = refl
changed-all f (suc start) place [] h k = refl
changed-all f zero zero (x ∷ xs) h k = absurd (omega arith)
changed-all f zero (suc place) (x ∷ xs) h k = ap (λ l. f x ∷ l) (changed-all f zero place xs (omega arith) (omega arith))
changed-all f (suc start) zero (x ∷ xs) h k = absurd (omega arith)
changed-all f (suc start) (suc place) (x ∷ xs) h k = ap (λ l. x ∷ l) (changed-all f start place xs (omega arith) (omega arith))

some : (f : TypePath → TypePath) (p : TypePath) (start : ℕ) (xs : List TypePath) → start < length xs → map f (drop start xs) ≡ or_else p (map f (drop start xs))
some f p start [] h = absurd (omega arith)
some f p zero (x ∷ xs) h = refl
some f p (suc start) (x ∷ xs) h = some f p start xs (omega arith)

pub changed-or_else :
    (f : TypePath → TypePath) (p : TypePath) (start place : ℕ) (xs : List TypePath) → start < length xs
    → length xs ≤ place → changed f start place xs ≡ take start xs ++ or_else p (map f (drop start xs))
changed-or_else f p start place xs h k = changed-all f start place xs (omega arith) k ∙ ap (λ l. take start xs ++ l) (some f p start xs h)

-- the path at the place is put in twice: first what stands in for it, and then what it becomes
changed-at :
    (f : TypePath → TypePath) (start place : ℕ) (xs : List TypePath) (x u : TypePath) → start ≤ place
    → place < length xs → x ≡ get_or (changed f start place xs) place x
    → set (set (changed f start place xs) place u) place (f x) ≡ changed f start (suc place) xs
unfolding changed
changed-at f start place [] x u h k e = refl
changed-at f zero zero (y ∷ xs) x u h k e = (λ i. f (e i) ∷ changed-none f zero xs i)
changed-at f zero (suc place) (y ∷ xs) x u h k e = ap (λ l. f y ∷ l) (changed-at f zero place xs x u (omega arith) (omega arith) e)
changed-at f (suc start) zero (y ∷ xs) x u h k e = absurd (omega arith)
changed-at f (suc start) (suc place) (y ∷ xs) x u h k e = ap (λ l. y ∷ l) (changed-at f start place xs x u (omega arith) (omega arith) e)

pub changed-more :
    (f : TypePath → TypePath) (start place : ℕ) (xs ys : List TypePath) (m x u z : TypePath)
    → ys ≡ changed f start place xs → start ≤ place → place < length xs → m ≡ get_or ys place m → x ≡ m → z ≡ f x
    → set (set ys place u) place z ≡ changed f start (place + 1) xs
changed-more f start place xs ys m x u z e h k i w j =
    let n : place + 1 ≡ suc place = omega arith in
    rw (e, j, w, n) (changed-at f start place xs m u h k (rw e at i))
