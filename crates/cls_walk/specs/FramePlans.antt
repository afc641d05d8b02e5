-- internal: stacks of the code that are ready for the walk to go on with
use Rattle.std.specs.Prelude.{ℕ, ◌≡◌, ◌+◌, ◌<◌, ◌≤◌, ◌⊎◌, true, false, List, [], ◌∷◌, length, slice_index_or}
use Rattle.cls_base.specs.declared.rule.Rule.{Rule}
use Rattle.cls_term.specs.Costs.{cost_of}
use Rattle.cls_walk.specs.Attempts.{AreFormsUpTo}
use Rattle.cls_walk.specs.Bounds.{HasUpper}
use Rattle.cls_walk.specs.FrameAims.{AreAims, AreLevels}
use Rattle.cls_walk.specs.FrameGuides.{least_of, IsGuide}
use Rattle.cls_walk.specs.FrameHeaps.{no_mark, stack_of}
use Rattle.cls_walk.specs.FrameLevels.{levels_of}
use Rattle.cls_walk.specs.Frames.{Frame, AreAsking}
use Rattle.cls_walk.specs.declared.aims.Levels as levels
use Rattle.cls_walk.specs.declared.guide.Guide as guide
use Rattle.cls_walk.specs.declared.plan.Plan as plan
use Rattle.cls_walk.specs.declared.standing.Frames as frames

-- The aims of a stack are right, and so are its levels up to `most`.
pub record IsAimed (book : List (List (Rule ℕ))) (g : guide.Guide) (f : frames.Frames) (l : levels.Levels) (stack most : ℕ) : Type 0 where
  pub aims : AreAims book (least_of g) g.start (stack_of f stack) (levels_of l stack 0)
  pub steps : AreLevels book (least_of g) most (levels_of l stack)

-- The same for each stack that a frame stands on, as far as the frame's arguments go.
abbrev pub AreAimed : List (List (Rule ℕ)) → guide.Guide → frames.Frames → levels.Levels → Type 0
AreAimed book g f l =
    (i : ℕ) → i < length f.marks.items
    → let mark = slice_index_or f.marks.items i no_mark in
    (most : ℕ) × (mark.left ≤ most + 1) × (mark.below < length l.stacks.items) × IsAimed book g f l mark.below most

-- One argument or more is to come on each frame, or there is one frame, which is whole.
abbrev pub IsSettled : List Frame → Type 0
IsSettled [] = ⊥
IsSettled (f ∷ fs) = ((1 ≤ f.left) × AreAsking fs) ⊎ ((f.left ≡ 0) × (fs ≡ []))

-- The plan goes by what is right for the book, for sizes up to `last`, and lists terms of node 0.
pub record IsPlan (book : List (List (Rule ℕ))) (last : ℕ) (p : plan.Plan) : Type 0 where
  pub forms : p.is_rising ≡ true → AreFormsUpTo book last p.forms.now
  pub guide : p.is_rising ≡ false → IsGuide book (cost_of p.costs.now) p.guide
  pub start : p.is_rising ≡ false → p.guide.start ≡ 0
  pub upper : HasUpper book (cost_of p.costs.now) (last + 1) p.upper.now
