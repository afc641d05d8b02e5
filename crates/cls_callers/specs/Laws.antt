-- The laws of goals that are asked together. `src/laws.rt` promises them of each expander.
use Rattle.std.specs.Prelude.{◌≡◌, ◌↔◌, Bool, List, Contains}
use Rattle.cls_core.specs.declared.answer.Answer.{Answer}
use Rattle.cls_core.specs.declared.entry.Entry.{Entry}
use Rattle.cls_core.specs.Canonical.{IsCanonical}
use Rattle.cls_core.specs.Closure.{IsReached}
use Rattle.cls_core.specs.Laws.{Completes}
use Rattle.cls_core.specs.Renumbering.{renumbered}
use Rattle.cls_core.specs.Rows.{Machine, Row, filed_rows}
use Rattle.cls_callers.specs.declared.goal.AskGoal.TheVariants.{Root, Of}
use Rattle.cls_callers.specs.declared.tag.AskTag.{AskTag}
use Rattle.cls_callers.specs.Asking.{IsAskAnswer}

-- IsAnswer b g a: the expanders that mean b have the answer a for the goal g
module _ {B G : Type 0} (IsAnswer : B → G → Answer G → Type 0) where
  -- some asked goal has this one in its closure
  abbrev pub IsReachedFromAsked : AskTag B G → G → Type 0
  IsReachedFromAsked t h = (g : G) × Contains t.goals g × IsReached (IsAnswer t.by) g h

  -- The closure of the root is the root with the closures of the asked goals.
  abbrev pub RootReachesAllClosures : Type 0
  RootReachesAllClosures =
      (t : AskTag B G) (h : G) → IsReached (IsAskAnswer IsAnswer t) Root (Of h) ↔ IsReachedFromAsked t h

-- The canonical rows of a goal are those that any table for this goal alone comes to, once they are renumbered.
abbrev pub CanonicalRowsAreFromScratch : {G : Type 0} → (G → G → Bool) → (G → Answer G → Type 0) → Type 0
CanonicalRowsAreFromScratch {G} eq IsAnswer =
    (start : G) (rows : List (Row G)) (es : List Entry) (t : Machine G) → IsCanonical eq IsAnswer start rows
    → Completes eq IsAnswer start es t → rows ≡ renumbered (filed_rows t.goals t.states)
