-- The order of paths as the code computes it.
use Rattle.std.specs.Prelude.{List}
use Rattle.std.specs.declared.cmp.Ordering.{Ordering}
use Rattle.std.specs.declared.cmp.Ordering.TheVariants.{Less, Equal, Greater}
use Rattle.std.specs.Ordering.{nat_cmp, ordering_then}
use Rattle.std.specs.Cmp.Lexicographic.{slice_cmp}
use Rattle.cls_path.specs.Paths.{TypePath, atom, inside, left, right, function, sealed, Paths, none, more}
use Rattle.cls_path.specs.NormalForms.{kind_of}

abbrev mutual
  pub path_order : TypePath → TypePath → Ordering
  path_order (atom c) (atom d) = nat_cmp c d
  path_order (inside c p) (inside d q) = ordering_then (nat_cmp c d) (path_order p q)
  path_order (left p) (left q) = path_order p q
  path_order (right p) (right q) = path_order p q
  path_order (function n p) (function m q) = ordering_then (paths_order n m) (path_order p q)
  path_order (sealed c n) (sealed d m) = ordering_then (nat_cmp c d) (paths_order n m)
  path_order p q = nat_cmp (kind_of p) (kind_of q)

  pub paths_order : Paths → Paths → Ordering
  paths_order none none = Equal
  paths_order none (more q m) = Less
  paths_order (more p n) none = Greater
  paths_order (more p n) (more q m) = ordering_then (path_order p q) (paths_order n m)

abbrev pub list_order : List TypePath → List TypePath → Ordering
list_order = slice_cmp path_order
