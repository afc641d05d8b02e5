-- Types without what no path goes through. An arrow to omega is omega, and an intersection leaves omega out: so where a type
-- has no path, omega stands in its place. A pruned type has the paths of the type, and its spread.
use Rattle.cls_base.specs.Types.{ClosedType, omega, constructor, product, arrow, meet}

-- the arrow between pruned types
unfoldable pub arrow_to : ClosedType → ClosedType → ClosedType
arrow_to s omega = omega
arrow_to s t = arrow s t

-- the intersection of pruned types
unfoldable pub meet_of : ClosedType → ClosedType → ClosedType
meet_of omega t = t
meet_of s omega = s
meet_of s t = meet s t

abbrev pub pruned : ClosedType → ClosedType
pruned omega = omega
pruned (constructor c s) = constructor c (pruned s)
pruned (product s t) = product (pruned s) (pruned t)
pruned (arrow s t) = arrow_to (pruned s) (pruned t)
pruned (meet s t) = meet_of (pruned s) (pruned t)
