-- The closed type that a `Ty` stands for, wherever its parts lie.
use Rattle.cls_base.specs.Types.{ClosedType, omega, constructor, product, arrow, meet}
use Rattle.cls_base.specs.declared.ty.Ty.{Ty, Omega, Bare, Con', Prod', Arrow', Meet'}

abbrev pub type_of : Ty → ClosedType
type_of Omega = omega
type_of (Bare c) = constructor c.0 omega
type_of (Con' c p s) = constructor c.0 (type_of s)
type_of (Prod' p s t) = product (type_of s) (type_of t)
type_of (Arrow' p s t) = arrow (type_of s) (type_of t)
type_of (Meet' p s t) = meet (type_of s) (type_of t)
