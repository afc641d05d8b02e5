-- internal: there is at most one proof that numbers are below a bound
use Rattle.std.specs.Prelude.{ℕ, List, [], ◌∷◌}
use Rattle.std.specs.Coded.{×_prop, Unit-prop, le_prop}
use Rattle.cls_base.specs.Lists.{AreBelow}

pub AreBelow-prop : (n : ℕ) (numbers : List ℕ) → IsProp (AreBelow n numbers)
AreBelow-prop n [] = Unit-prop
AreBelow-prop n (a ∷ numbers) = ×_prop le_prop (AreBelow-prop n numbers)

pub AllBelow-prop : (n : ℕ) (cell : ℕ → ℕ → List ℕ) → IsProp ((s i : ℕ) → AreBelow n (cell s i))
AllBelow-prop n cell f g = λ k s i. AreBelow-prop n (cell s i) (f s i) (g s i) k
