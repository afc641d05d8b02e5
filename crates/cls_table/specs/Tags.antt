-- The tag of a table. A seat knows it, and it stays.
use Rattle.std.specs.Prelude.{◌≡◌, ℕ}
use Rattle.std.proofs.Common.{refl, ◌∙◌}
use Rattle.cls_table.specs.declared.limits.Limits.{Limits}
use Rattle.cls_table.specs.declared.tag.Tag.{Tag}
use Rattle.cls_table.specs.Seen.{TableSeen}

module _ {B G : Type 0} where
  -- what the expander means, the start goal, the limits, and the greatest number of a worker
  abbrev pub tag_for : B → G → Limits → ℕ → Tag B G
  tag_for by start limits workers =
      record { by = by; start = start; goals = limits.goals; rules = limits.rules; workers = workers }

  abbrev pub tag_of : TableSeen B G → Tag B G
  tag_of t = t.tag

  abbrev pub IsSameTag : Tag B G → Tag B G → Type 0
  IsSameTag k l = l ≡ k

  pub same_tag_reflexive : (k : Tag B G) → IsSameTag k k
  same_tag_reflexive k = refl

  pub same_tag_transitive : (k l m : Tag B G) → IsSameTag k l → IsSameTag l m → IsSameTag k m
  same_tag_transitive k l m h i = i ∙ h
