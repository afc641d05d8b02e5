-- internal: what a walk over frames goes by is right for a book
use Rattle.std.specs.Prelude.{ℕ, ◌+◌, List, slice_index}
use Rattle.cls_base.specs.declared.rule.Rule.{Rule}
use Rattle.cls_walk.specs.Counts.{HeadRule}
use Rattle.cls_walk.specs.FrameBegins.{AreSized}
use Rattle.cls_walk.specs.FrameColumns.{AreRules}
use Rattle.cls_walk.specs.Frames.{least_sum, AreLeastSizes}
use Rattle.cls_walk.specs.declared.guide.Guide as guide

-- the least size of a node, 0 past the last one
abbrev pub least_of : guide.Guide → ℕ → ℕ
least_of g n = slice_index g.least.now n

-- what the component and the nodes of a head rule come to
abbrev pub own_size : (ℕ → ℕ) → guide.Guide → HeadRule → ℕ
own_size cost g h = cost h.0 + least_sum (least_of g) h.1

-- the rules are those of the book, and the sizes are right for its rules and these costs
pub record IsGuide (book : List (List (Rule ℕ))) (cost : ℕ → ℕ) (g : guide.Guide) : Type 0 where
  pub rules : AreRules book g.rules.now
  pub least : AreLeastSizes book (least_of g) cost
  pub sized : AreSized (own_size cost g) g.rules.now g.sizes.now
