use Rattle.std.proofs.Common.{length}
use Rattle.cls_enum.proofs.bounds.+extended_places.Given as goal

abbrev pub decreases-extended_places : goal.decreases-extended_places
decreases-extended_places l = length l.places.now
