-- What became of a filing.
use Rattle.std.specs.Prelude.{List}
use Rattle.cls_core.specs.declared.filing.Filing.{Filing}
use Rattle.cls_core.specs.declared.filing.Filing.TheVariants.{Kept, OverLimits}

-- if the row is filed, its arguments have the property
abbrev pub IfKept : {G : Type 0} → (List G → Type 0) → Filing G → Type 0
IfKept P (Kept goals) = P goals
IfKept P OverLimits = Unit {0}
