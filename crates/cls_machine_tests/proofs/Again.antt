-- Seats whose tag is that of a caller's seat, and numbers up to the greatest of a tag.
use Rattle.std.proofs.Common.{◌≡◌, ◌≤◌, ◌∙◌, ℕ, Option, Some, sym, subst}
use Rattle.std.specs.Option.{ForSome}
use Rattle.cls_table.specs.Seen.{SeatSeen}
use Rattle.cls_table.specs.declared.tag.Tag.{Tag}
use Rattle.cls_callers.specs.declared.goal.AskGoal.{AskGoal}
use Rattle.cls_callers.specs.declared.tag.AskTag.{AskTag}
use Rattle.cls_callers.specs.Asking.{IsCaller}

-- a seat with the tag of a caller's seat is a caller's
pub caller-again : {B G : Type 0} (asked : AskTag B G) (before after : SeatSeen (AskTag B G) (AskGoal G))
    → IsCaller asked before → after.tag ≡ before.tag → IsCaller asked after
caller-again asked before after h same =
    record { tag = h.tag; known = same ∙ h.known; means = h.means; at_root = h.at_root }

same-tag : {A : Type 0} (x y : A) → Some x ≡ Some y → x ≡ y
same-tag x y e = cc

-- a number up to the greatest worker of the tag is so of each tag that it may be
pub number-within : {B G : Type 0} (known : Option (Tag B G)) (tag : Tag B G) (n : ℕ) → known ≡ Some tag → n ≤ tag.workers
    → ForSome known (λ (t : Tag B G). n ≤ t.workers)
number-within {B} {G} known tag n is within t same =
    subst (λ (u : Tag B G). n ≤ u.workers) (same-tag tag t (sym is ∙ same)) within
