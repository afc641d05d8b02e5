-- Paths and lists are below each other if and only if a derivation says it of their types.
use Rattle.std.proofs.Common.{ℕ, ◌↔◌, subst}
use Rattle.cls_base.specs.Taxonomies.{Variance}
use Rattle.cls_base.specs.Subtyping.{Subtype}
use Rattle.cls_path.specs.Paths.{TypePath, Paths, none, more, PathLe, SomeLe, here, there, PathsLe, each, type_of_path, type_of_paths, paths_of, Suits, SuitsAll}
use Rattle.cls_path.proofs.Soundness.{le_sound, covers_sound, above_sound}
use Rattle.cls_path.proofs.Completeness.{complete}
use Rattle.cls_path.proofs.RoundTrip.{paths_back}

module _ (below : ℕ → ℕ → Type 0) (variance : ℕ → Variance) (reflexive : (c : ℕ) → below c c) (transitive : (c d e : ℕ) → below c d → below d e → below c e) where
  first_of : (n m : Paths) (q : TypePath) → PathsLe below variance n (more q m) → SomeLe below variance n q
  first_of n m q (each a h) = a

  single : (p q : TypePath) → SomeLe below variance (more p none) q → PathLe below variance p q
  single p q (here h) = h
  single p q (there a) = elim a [ ]

  -- the order of the lists of paths that two types fall into
  between :
      (n m : Paths) → SuitsAll variance n → SuitsAll variance m
      → PathsLe below variance (paths_of variance (type_of_paths n)) (paths_of variance (type_of_paths m))
      → PathsLe below variance n m
  between n m s t h = subst (λ l. PathsLe below variance n l) (paths_back m variance t) (subst (λ l. PathsLe below variance l (paths_of variance (type_of_paths m))) (paths_back n variance s) h)

  pub paths_exact :
      (n m : Paths) → SuitsAll variance n → SuitsAll variance m
      → PathsLe below variance n m ↔ Subtype below variance (type_of_paths n) (type_of_paths m)
  paths_exact n m s t = ((λ h. covers_sound below variance h s t), (λ d. between n m s t (complete below variance reflexive transitive d)))

  pub path_exact : (p q : TypePath) → Suits variance p → Suits variance q → PathLe below variance p q ↔ Subtype below variance (type_of_path p) (type_of_path q)
  path_exact p q s t = ((λ h. le_sound below variance h s t), (λ d. single p q (first_of (more p none) none q (between (more p none) (more q none) (s, tt) (t, tt) (complete below variance reflexive transitive d)))))

  -- an intersection of paths is below a path if and only if one of them is
  pub prime :
      (n : Paths) (q : TypePath) → SuitsAll variance n → Suits variance q
      → Subtype below variance (type_of_paths n) (type_of_path q) ↔ SomeLe below variance n q
  prime n q s t = ((λ d. first_of n none q (between n (more q none) s (t, tt) (complete below variance reflexive transitive d))), (λ a. above_sound below variance a s t))
