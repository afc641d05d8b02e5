-- internal: columns of places, of rules and of aims, and how the code's are seen
use Rattle.std.specs.Prelude.{ℕ, ◌≡◌, ◌⊎◌, List, [], map, slice_index_or, Vec}
use Rattle.std.specs.Global.{Global}
use Rattle.cls_base.specs.declared.rule.Rule.{Rule}
use Rattle.cls_base.specs.Languages.{rules_at}
use Rattle.cls_enum.specs.Members.{IsIn}
use Rattle.cls_walk.specs.Counts.{HeadRule, heads_of, pairs_of}
use Rattle.cls_walk.specs.Frames.{Place, Follows, pairs_from}
use Rattle.cls_walk.specs.declared.places.Place as place
use Rattle.cls_walk.specs.declared.rules.Head as head
use Rattle.cls_walk.specs.declared.rules.Pair as pair
use Rattle.cls_walk.specs.declared.rules.Made as made
use Rattle.cls_walk.specs.declared.rules.Rules as rules

abbrev pub place_of : place.Place → Place
place_of p = (p.node, p.rest.now)

abbrev pub head_of : head.Head → HeadRule
head_of h = (h.component, h.nodes.now)

abbrev pub pair_of : pair.Pair → ℕ × ℕ
pair_of p = (p.left, p.right)

abbrev pub made_of : made.Made → ℕ × ℕ
made_of p = (p.argument, p.node)

-- places with P come to the others; they may be there already
pub record Grows (P : Place → Type 0) (old new : List place.Place) : Type 0 where
  pub kept : (q : Place) → IsIn (map place_of old) q → IsIn (map place_of new) q
  pub each : (q : Place) → IsIn (map place_of new) q → IsIn (map place_of old) q ⊎ P q
  pub all : (q : Place) → P q → IsIn (map place_of new) q

-- what the pairs make where the argument is whole at one of the places
abbrev pub IsPassed : List (ℕ × ℕ) → List Place → Place → Type 0
IsPassed mades above q = (d : ℕ × ℕ) × IsIn mades d × IsIn above (d.0, []) × (q ≡ (d.1, []))

-- the rules are those of the book, by their kinds
pub record AreRules (book : List (List (Rule ℕ))) (r : rules.Rules) : Type 0 where
  pub heads : (n : ℕ) → map head_of (slice_index_or (map (λ (v : Vec head.Head Global). v.items) r.heads.items) n []) ≡ heads_of (rules_at book n)
  pub pairs : (n : ℕ) → map pair_of (slice_index_or (map (λ (v : Vec pair.Pair Global). v.items) r.pairs.items) n []) ≡ pairs_of (rules_at book n)
  pub makes : (n : ℕ) → map made_of (slice_index_or (map (λ (v : Vec made.Made Global). v.items) r.makes.items) n []) ≡ pairs_from book n

module _ (book : List (List (Rule ℕ))) (above : List Place) where
  -- what the place becomes when its next argument is whole at one of the places above
  abbrev pub IsFollowed : Place → Place → Type 0
  IsFollowed p q = (m : ℕ) × IsIn above (m, []) × Follows book p m q

  -- the same for one of these places
  abbrev pub AreFollowed : List Place → Place → Type 0
  AreFollowed places q = (p : Place) × IsIn places p × IsFollowed p q
