use Rattle.std.proofs.Common.{◌≡◌, ◌==◌, ◌++◌, drop, map}
use Rattle.std.specs.List.{IsDistinct}
use Rattle.cls_path.specs.Labels.{key_of, digest_of}
use Rattle.cls_path.proofs.groups.are_apart.Given as goal

-- the digests are those of the paths before this one
abbrev pub invariant-loop-path : goal.invariant-loop-path
invariant-loop-path g l =
    record {
      same : map (λ p. digest_of (key_of (g.T.Taxa.class l.taxa) l.mask p)) l.paths ≡ l.digests.keys ++ map (λ p. digest_of (key_of (g.T.Taxa.class l.taxa) l.mask p)) (drop l.path-index l.paths);
      distinct : IsDistinct (λ m n. m == n) l.digests.keys;
    }
