use Rattle.std.proofs.Common.{◌≡◌, ◌+◌, drop}
use Rattle.cls_path.specs.Paths.{listed}
use Rattle.cls_path.specs.Tests.{list_below, some_below}
use Rattle.cls_path.specs.Sizes.{size_of, list_size}
use Rattle.cls_path.proofs.path.+below.Given as goal

abbrev pub decreases-Path::is_below : goal.decreases-Path::is_below
decreases-Path::is_below g l = size_of l.self.now + size_of l.other.now

abbrev pub decreases-Nf::is_below : goal.decreases-Nf::is_below
decreases-Nf::is_below g l = list_size l.self.now + list_size l.other.now

abbrev pub decreases-Nf::some_below : goal.decreases-Nf::some_below
decreases-Nf::some_below g l = list_size l.self.now + size_of l.path.now

abbrev pub invariant-Nf::is_below-loop-path : goal.invariant-Nf::is_below-loop-path
invariant-Nf::is_below-loop-path g l =
    list_below (g.T.Taxa.is_below l.taxa) (g.T.Taxa.variance_of_name l.taxa) (listed l.self) (listed l.path-items)
    ≡ list_below (g.T.Taxa.is_below l.taxa) (g.T.Taxa.variance_of_name l.taxa) (listed l.self) (listed (drop l.path-index l.path-items))

abbrev pub invariant-Nf::some_below-loop-one : goal.invariant-Nf::some_below-loop-one
invariant-Nf::some_below-loop-one g l =
    some_below (g.T.Taxa.is_below l.taxa) (g.T.Taxa.variance_of_name l.taxa) (listed l.one-items) l.path
    ≡ some_below (g.T.Taxa.is_below l.taxa) (g.T.Taxa.variance_of_name l.taxa) (listed (drop l.one-index l.one-items)) l.path

abbrev pub decreases-Nf::is_sealed_below : goal.decreases-Nf::is_sealed_below
decreases-Nf::is_sealed_below g l = list_size l.self.now + list_size l.other.now + 1
