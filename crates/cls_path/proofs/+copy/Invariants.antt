-- The size is doubled, so that the copy of a list of paths is below that of the intersection that holds it.
use Rattle.std.proofs.Common.{◌≡◌, ◌+◌, ◌*◌, take}
use Rattle.cls_path.specs.Sizes.{size_of, list_size}
use Rattle.cls_path.proofs.+copy.Given as goal

abbrev pub decreases-path::Path::copy_deep : goal.decreases-path::Path::copy_deep
decreases-path::Path::copy_deep l = 2 * size_of l.self.now

abbrev pub decreases-path::Nf::copy : goal.decreases-path::Nf::copy
decreases-path::Nf::copy l = 2 * list_size l.self.now + 1

abbrev pub decreases-make::copy_all : goal.decreases-make::copy_all
decreases-make::copy_all l = 2 * list_size l.list.now.items

abbrev pub invariant-make::copy_all-loop-path : goal.invariant-make::copy_all-loop-path
invariant-make::copy_all-loop-path l = l.paths.items ≡ take l.path-index l.path-items
