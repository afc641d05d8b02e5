-- The order of types: by form, then by parts from left to right.
use Rattle.std.specs.Prelude.{ℕ}
use Rattle.std.specs.declared.cmp.Ordering.{Ordering}
use Rattle.std.specs.Ordering.{nat_cmp, ordering_then}
use Rattle.cls_base.specs.Types.{ClosedType, omega, constructor, product, arrow, meet}

-- the place of the form among the five
abbrev pub form_of : ClosedType → ℕ
form_of omega = 0
form_of (constructor c s) = 1
form_of (product s t) = 2
form_of (arrow s t) = 3
form_of (meet s t) = 4

abbrev pub order_of : ClosedType → ClosedType → Ordering
order_of (constructor c s) (constructor d t) = ordering_then (nat_cmp c d) (order_of s t)
order_of (product s t) (product u v) = ordering_then (order_of s u) (order_of t v)
order_of (arrow s t) (arrow u v) = ordering_then (order_of s u) (order_of t v)
order_of (meet s t) (meet u v) = ordering_then (order_of s u) (order_of t v)
order_of s t = nat_cmp (form_of s) (form_of t)
