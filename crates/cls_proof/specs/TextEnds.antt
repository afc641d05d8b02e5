-- internal: texts that stand one after another in one column, with the places where they end
use Rattle.std.specs.Prelude.{⊤, ℕ, List, [], ◌∷◌, length}
use Rattle.std.specs.Str.{IsCharBoundary}
use Rattle.cls_base.specs.Cuts.{AreEnds}

-- characters end where texts do
abbrev pub AreBoundaries : List ℕ → List ℕ → Type 0
AreBoundaries bytes [] = ⊤
AreBoundaries bytes (end ∷ ends) = IsCharBoundary bytes end × AreBoundaries bytes ends

pub record AreTextEnds (bytes ends : List ℕ) : Type 0 where
  pub rise : AreEnds 0 (length bytes) ends
  pub boundaries : AreBoundaries bytes ends
