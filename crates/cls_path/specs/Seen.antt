-- The path that a form stands for, the paths of a list, and what an arrow takes, wherever their parts lie.
use Rattle.std.specs.Prelude.{List, [], ◌∷◌}
use Rattle.cls_path.specs.Paths.{TypePath, atom, inside, unit, left, right, function, sealed, Paths, none, more, listed}
use Rattle.cls_path.specs.declared.path.Form.{Form}
use Rattle.cls_path.specs.declared.path.Form.TheVariants.{Atom, Over, Con, Unit, Left, Right, From, Arrow, Sealed}
use Rattle.cls_path.specs.declared.path.PathList.{PathList}
use Rattle.cls_path.specs.declared.path.PathList.TheVariants.{One, Several}
use Rattle.cls_path.specs.declared.source.ArrowSource.{ArrowSource}
use Rattle.cls_path.specs.declared.source.ArrowSource.TheVariants as source

abbrev pub path_of : Form → TypePath
path_of (Atom c) = atom c.0
path_of (Over c d) = inside c.0 (atom d.0)
path_of (Con c p) = inside c.0 p.value
path_of Unit = unit
path_of (Left p) = left p.value
path_of (Right p) = right p.value
path_of (From c p) = function (more (atom c.0) none) p.value
path_of (Arrow a) = function (listed a.value.source) a.value.target
path_of (Sealed c n) = sealed c.0 (listed n.value)

abbrev pub items_of : PathList → List TypePath
items_of (One p alloc) = p ∷ []
items_of (Several ps) = ps.items

abbrev pub paths_of_source : ArrowSource → Paths
paths_of_source (source.Name c) = more (atom c.0) none
paths_of_source (source.Paths n) = listed n.now
