use Rattle.std.proofs.Common.{◌⊎◌, ◌↔◌, vec_len}
use Rattle.std.specs.Prelude.{Contains}
use Rattle.cls_path.specs.Paths.{TypePath}
use Rattle.cls_path.specs.Groups.{Holds, AreKeyed}
use Rattle.cls_path.specs.Labels.{key_of}
use Rattle.cls_path.proofs.groups.grouped.Given as goal

abbrev pub invariant-loop-path : goal.invariant-loop-path
invariant-loop-path g l =
    record {
      keyed : AreKeyed (key_of (g.T.Taxa.class l.taxa) l.mask) l.keys.keys l.groups.items;
      same : (p : TypePath) → (Holds l.groups.items p ⊎ Contains l.paths.items p) ↔ Contains l.fn.paths.items p;
    }

abbrev pub decreases-loop-path : goal.decreases-loop-path
decreases-loop-path g l = vec_len l.paths
