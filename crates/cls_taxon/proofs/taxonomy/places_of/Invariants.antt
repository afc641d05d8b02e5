use Rattle.std.proofs.Common.{ℕ, ◌≡◌, true, map}
use Rattle.std.specs.Prelude.{Contains}
use Rattle.cls_taxon.specs.Orders.{stands_in}
use Rattle.cls_taxon.specs.PairGraphs.{pair_of}
use Rattle.cls_taxon.proofs.taxonomy.places_of.Given as goal

abbrev pub invariant-loop-number : goal.invariant-loop-number
invariant-loop-number l = (a : ℕ) → Contains l.places a → stands_in (map pair_of l.pairs) a ≡ true
