-- The paths of the type of a list of paths are this list.
use Rattle.std.proofs.Common.{ℕ, ◌≡◌, refl, sym, ◌∙◌, subst, ap, inl, inr}
use Rattle.cls_base.specs.Types.{ClosedType, meet}
use Rattle.cls_base.specs.Taxonomies.{Variance, covariant}
use Rattle.cls_path.specs.Paths.{TypePath, atom, inside, unit, left, right, function, sealed, Paths, none, more, type_of_path, type_of_paths, meets, append, map_paths, or_one, constructor_paths, paths_of, Suits, SuitsAll}

pub append_none : (n : Paths) → append n none ≡ n
append_none none = refl
append_none (more p n) = ap (more p) (append_none n)

pub append_assoc : (n m l : Paths) → append (append n m) l ≡ append n (append m l)
append_assoc none m l = refl
append_assoc (more p n) m l = ap (more p) (append_assoc n m l)

mutual
  pub path_back : (p : TypePath) (v : ℕ → Variance) → Suits v p → paths_of v (type_of_path p) ≡ more p none
  path_back (atom c) v s = subst (λ x. constructor_paths x c none ≡ more (atom c) none) (sym s) refl
  path_back (inside c p) v s = subst (λ x. constructor_paths x c (paths_of v (type_of_path p)) ≡ more (inside c p) none) (sym s.0) (ap (λ n. constructor_paths covariant c n) (path_back p v s.1))
  path_back unit v s = refl
  path_back (left p) v s = ap (λ n. or_one unit (append (map_paths left n) none)) (path_back p v s)
  path_back (right p) v s = ap (λ n. or_one unit (map_paths right n)) (path_back p v s)
  path_back (function n p) v s = ap (λ m. map_paths (function m) (paths_of v (type_of_path p))) (paths_back n v s.0) ∙ ap (map_paths (function n)) (path_back p v s.1)
  path_back (sealed c n) v s = elim s.0 [
    | inl e ↦ subst (λ x. constructor_paths x c (paths_of v (type_of_paths n)) ≡ more (sealed c n) none) (sym e) (ap (λ m. more (sealed c m) none) (paths_back n v s.1))
    | inr e ↦ subst (λ x. constructor_paths x c (paths_of v (type_of_paths n)) ≡ more (sealed c n) none) (sym e) (ap (λ m. more (sealed c m) none) (paths_back n v s.1))
  ]

  pub paths_back : (n : Paths) (v : ℕ → Variance) → SuitsAll v n → paths_of v (type_of_paths n) ≡ n
  paths_back none v s = refl
  paths_back (more p n) v s = meets_back n (type_of_path p) v s.1 ∙ ap (λ m. append m n) (path_back p v s.0)

  pub meets_back : (n : Paths) (s : ClosedType) (v : ℕ → Variance) → SuitsAll v n → paths_of v (meets s n) ≡ append (paths_of v s) n
  meets_back none s v h = sym (append_none (paths_of v s))
  meets_back (more q m) s v h = meets_back m (meet s (type_of_path q)) v h.1 ∙ (ap (λ l. append (append (paths_of v s) l) m) (path_back q v h.0) ∙ append_assoc (paths_of v s) (more q none) m)
