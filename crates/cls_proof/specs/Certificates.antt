-- Certificates: what is said for a type that some term has, and for one that no term has.
use Rattle.std.specs.Prelude.{ℕ, List}
use Rattle.cls_base.specs.Types.{ClosedType}

-- A goal, with the positions of arrows by which some term has it. The arrows are those of a component that take n
-- arguments.
pub record ProofRow : Type 0 where
  pub goal : ClosedType
  pub component : ℕ
  pub n : ℕ
  pub cover : List ℕ

-- Layers of sets of positions, over the arrows of a component that take n arguments.
pub record Block : Type 0 where
  pub component : ℕ
  pub n : ℕ
  pub layers : List (List (List ℕ))

-- A goal that no term has, and blocks that show it.
pub record Member : Type 0 where
  pub goal : ClosedType
  pub blocks : List Block

pub data Certificate : Type 0 where
  inhabited : List ProofRow → Certificate
  empty : List Member → Certificate
