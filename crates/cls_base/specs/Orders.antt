-- Orders as relations.
use Rattle.std.specs.Prelude.{◌≡◌, ◌⊎◌}

pub record IsStrictTotalOrder (A : Type 0) (R : A → A → Type 0) : Type 0 where
  pub irreflexive : (x : A) → R x x → ⊥
  pub transitive : (x y z : A) → R x y → R y z → R x z
  pub total : (x y : A) → R x y ⊎ (x ≡ y) ⊎ R y x
