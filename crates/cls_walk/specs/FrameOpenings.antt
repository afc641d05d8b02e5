-- internal: the frame of an opening on a stack of the code
use Rattle.std.specs.Prelude.{ℕ, ◌≡◌, List, ◌∷◌}
use Rattle.cls_base.specs.declared.rule.Rule.{Rule}
use Rattle.cls_walk.specs.FrameAims.{Aim, AreOffered}
use Rattle.cls_walk.specs.FrameHeaps.{stack_of}
use Rattle.cls_walk.specs.Frames.{Place}
use Rattle.cls_walk.specs.declared.standing.Frames as frames

-- On stack `top` stands a frame with component x and k arguments, which has all places that are offered within the
-- size. That is stack t.
pub record Begins (book : List (List (Rule ℕ))) (least : ℕ → ℕ) (levels : ℕ → List Aim)
    (old new : frames.Frames) (top size x k t : ℕ) : Type 0 where
  pub places : List Place
  pub offered : AreOffered book least levels size x k places
  pub stack : stack_of new t ≡ record { places = places; left = k } ∷ stack_of old top
