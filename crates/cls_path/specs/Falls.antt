-- internal: what lies inside a path or a list is smaller
use Rattle.std.specs.Prelude.{◌+◌, ◌≤◌, List, [], ◌∷◌, max, ◌≡◌, refl}
use Rattle.std.proofs.Common.{arith, ap}
use denote.Param.Weighed.{most}
use Rattle.cls_path.specs.Paths.{TypePath, listed}
use Rattle.cls_path.specs.Seen.{path_of, items_of}
use Rattle.cls_path.specs.Sizes.{size_of, sizes_of, list_size}
use Rattle.cls_path.specs.declared.path.Form.{Form}
use Rattle.cls_path.specs.declared.path.Form.TheVariants.{Atom, Over, Con, Unit, Left, Right, From, Arrow, Sealed}
use Rattle.cls_path.specs.declared.path.Nf.TheDeep.{deep-Form, deep-PathList}
use Rattle.cls_path.specs.declared.path.PathList.{PathList}
use Rattle.cls_path.specs.declared.path.PathList.TheVariants.{One, Several}

pub sizes_of-listed : (ps : List TypePath) → sizes_of (listed ps) ≡ list_size ps
sizes_of-listed [] = refl
sizes_of-listed (p ∷ ps) = ap (λ n. size_of p + n + 1) (sizes_of-listed ps)

pub path_falls : (f : Form) → max (deep-Form f) 0 ≤ size_of (path_of f)
path_falls (Atom c) = omega arith
path_falls (Over c d) = omega arith
path_falls (Con c p) = omega arith
path_falls Unit = omega arith
path_falls (Left p) = omega arith
path_falls (Right p) = omega arith
path_falls (From c p) = omega arith
path_falls (Arrow a) = omega (arith, sizes_of-listed a.value.source)
path_falls (Sealed c n) = omega (arith, sizes_of-listed n.value)

most_falls : (ps : List TypePath) → most (λ p. size_of p + 1) ps ≤ list_size ps
most_falls [] = omega arith
most_falls (p ∷ ps) = omega (arith, most_falls ps)

pub list_falls : (l : PathList) → max (deep-PathList l) 0 ≤ list_size (items_of l)
list_falls (One p alloc) = omega arith
list_falls (Several ps) = omega (arith, most_falls ps.items)
