-- internal: paths as the trees of numbers under which values that contracts see are kept
use Rattle.std.specs.Prelude.{zero, suc, ◌≡◌, refl}
use Rattle.std.proofs.Common.{sym, ap, ◌∙◌}
use base.Stored.{Gv, gnil, gnum, gcons, num, Coded}
use Rattle.cls_path.specs.Paths.{TypePath, atom, inside, unit, left, right, function, sealed, Paths, none, more}

abbrev mutual
  pub code_path : TypePath → Gv
  code_path (atom c) = gcons (gnum 0) (gnum c)
  code_path (inside c p) = gcons (gnum 1) (gcons (gnum c) (code_path p))
  code_path unit = gnil
  code_path (left p) = gcons (gnum 2) (code_path p)
  code_path (right p) = gcons (gnum 3) (code_path p)
  code_path (function n p) = gcons (gnum 4) (gcons (code_paths n) (code_path p))
  code_path (sealed c n) = gcons (gnum 5) (gcons (gnum c) (code_paths n))

  pub code_paths : Paths → Gv
  code_paths none = gnil
  code_paths (more p n) = gcons (code_path p) (code_paths n)

-- Back from the code. Numerals are no patterns here, so they are counted down.
abbrev mutual
  pub path_from : Gv → TypePath
  path_from (gcons (gnum zero) g) = atom (num g)
  path_from (gcons (gnum (suc zero)) (gcons c g)) = inside (num c) (path_from g)
  path_from (gcons (gnum (suc (suc zero))) g) = left (path_from g)
  path_from (gcons (gnum (suc (suc (suc zero)))) g) = right (path_from g)
  path_from (gcons (gnum (suc (suc (suc (suc zero))))) (gcons n g)) = function (paths_from n) (path_from g)
  path_from (gcons (gnum (suc (suc (suc (suc (suc k)))))) (gcons c n)) = sealed (num c) (paths_from n)
  path_from _ = unit

  pub paths_from : Gv → Paths
  paths_from (gcons g n) = more (path_from g) (paths_from n)
  paths_from _ = none

mutual
  pub path_from-code_path : (p : TypePath) → path_from (code_path p) ≡ p
  path_from-code_path (atom c) = refl
  path_from-code_path (inside c p) = ap (inside c) (path_from-code_path p)
  path_from-code_path unit = refl
  path_from-code_path (left p) = ap left (path_from-code_path p)
  path_from-code_path (right p) = ap right (path_from-code_path p)
  path_from-code_path (function n p) = λ i. function (paths_from-code_paths n i) (path_from-code_path p i)
  path_from-code_path (sealed c n) = ap (sealed c) (paths_from-code_paths n)

  pub paths_from-code_paths : (n : Paths) → paths_from (code_paths n) ≡ n
  paths_from-code_paths none = refl
  paths_from-code_paths (more p n) = λ i. more (path_from-code_path p i) (paths_from-code_paths n i)

abbrev pub coded_path : Coded TypePath
coded_path = record { code = code_path; inj = λ p q e. sym (path_from-code_path p) ∙ ap path_from e ∙ path_from-code_path q }
