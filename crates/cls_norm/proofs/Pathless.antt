-- Types without a path: the number of their paths is 0, and their list of paths is empty, whatever the variances of names.
use Rattle.std.proofs.Common.{◌≡◌, refl, ap, ℕ, arith}
use Rattle.cls_base.specs.Types as types
use Rattle.cls_base.specs.Types.{ClosedType, constructor, product, arrow, meet, path_count}
use Rattle.cls_base.specs.Taxonomies.{Variance, covariant, contravariant, invariant}
use Rattle.cls_path.specs.Paths.{TypePath, atom, inside, unit, left, right, function, sealed, Paths, none, more, append, map_paths, or_one, constructor_paths, paths_of}

more_some : (p : TypePath) (n : Paths) → more p n ≡ none → ⊥
more_some p n e = cc

one_some : (p : TypePath) (n : Paths) → or_one p n ≡ none → ⊥
one_some p none e = more_some p none e
one_some p (more q n) e = more_some q n e

constructor_some : (w : Variance) (c : ℕ) (n : Paths) → constructor_paths w c n ≡ none → ⊥
constructor_some covariant c n e = one_some (atom c) (map_paths (inside c) n) e
constructor_some contravariant c n e = more_some (sealed c n) none e
constructor_some invariant c n e = more_some (sealed c n) none e

map_none : (f : TypePath → TypePath) (n : Paths) → map_paths f n ≡ none → n ≡ none
map_none f none e = refl
map_none f (more p n) e = absurd (more_some (f p) (map_paths f n) e)

first_none : (n m : Paths) → append n m ≡ none → n ≡ none
first_none none m e = refl
first_none (more p n) m e = absurd (more_some p (append n m) e)

second_none : (n m : Paths) → append n m ≡ none → m ≡ none
second_none none m e = e
second_none (more p n) m e = absurd (more_some p (append n m) e)

pub no_paths : (v : ℕ → Variance) (t : ClosedType) → path_count t ≡ 0 → paths_of v t ≡ none
no_paths v types.omega h = refl
no_paths v (constructor c s) h = absurd (omega arith)
no_paths v (product s t) h = absurd (omega arith)
no_paths v (arrow s t) h = ap (map_paths (function (paths_of v s))) (no_paths v t h)
no_paths v (meet s t) h =
    let e = no_paths v s (omega arith) in
    let f = no_paths v t (omega arith) in
    λ i. append (e i) (f i)

pub none_counted : (v : ℕ → Variance) (t : ClosedType) → paths_of v t ≡ none → path_count t ≡ 0
none_counted v types.omega e = refl
none_counted v (constructor c s) e = absurd (constructor_some (v c) c (paths_of v s) e)
none_counted v (product s t) e = absurd (one_some unit (append (map_paths left (paths_of v s)) (map_paths right (paths_of v t))) e)
none_counted v (arrow s t) e = none_counted v t (map_none (function (paths_of v s)) (paths_of v t) e)
none_counted v (meet s t) e =
    let a = none_counted v s (first_none (paths_of v s) (paths_of v t) e) in
    let b = none_counted v t (second_none (paths_of v s) (paths_of v t) e) in
    omega arith
