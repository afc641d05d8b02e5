-- What the code's measured types are.
use Rattle.cls_base.specs.Types.{ClosedType}
use Rattle.cls_base.specs.Ty.{type_of}
use Rattle.cls_syntax.specs.declared.measured.MeasuredTy.{MeasuredTy}

-- the type that was measured
abbrev pub measured_type : MeasuredTy → ClosedType
measured_type measured = type_of measured.ty
