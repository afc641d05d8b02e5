-- internal: exact numbers of terms, counted size after size, until they tell the page
use Rattle.std.specs.Prelude.{ℕ, ◌≡◌, ◌+◌, ◌<◌, ◌≤◌, ◌⊎◌, ◌↔◌, List, [], length, map, Contains, option_copied}
use Rattle.cls_base.specs.Languages.{IsGenerated}
use Rattle.cls_base.specs.Lists.{AreDistinct}
use Rattle.cls_base.specs.Pages.{Request, IsDue}
use Rattle.cls_base.specs.Terms.{Applicative, code_of}
use Rattle.cls_base.specs.declared.rule.Rule.{Rule}
use Rattle.cls_term.specs.Costs.{cost_of}
use Rattle.cls_enum.specs.Requests.{request}
use Rattle.cls_enum.specs.States.{IsMade, FitsPool}
use Rattle.cls_walk.specs.Attempts.{AreDueCodes, IsStart}
use Rattle.cls_walk.specs.Counts.{AtLeast, AtMost}
use Rattle.cls_walk.specs.FrameGuides.{IsGuide}
use Rattle.cls_walk.specs.PageFronts.{IsDueFront}
use Rattle.cls_walk.specs.declared.exact.Search as search
use Rattle.cls_walk.specs.declared.guide.Guide as guide
use Rattle.cls_walk.specs.declared.plan.Plan as plan
use Rattle.cls_walk.specs.declared.walk.Walk as walk

-- exactly k terms of node n have size t and may stand on a page
abbrev pub CountIs : List (List (Rule ℕ)) → (ℕ → ℕ) → ℕ → ℕ → ℕ → Type 0
CountIs book cost t n k = AtLeast book cost t n k × AtMost book cost t n k

module _ (book : List (List (Rule ℕ))) (r : Request) where
  -- exactly n pairs of a node and a term of it have a smaller size than s, or size s where the node is below i
  abbrev pub MadeIs : ℕ → ℕ → ℕ → Type 0
  MadeIs s i n =
      (pairs : List (ℕ × Applicative)) × AreDistinct pairs
      × ((p : ℕ × Applicative) → Contains pairs p ↔ IsMade book r s i p) × (length pairs ≡ n)

  -- All due terms of size below s are listed, no more than are taken, and n pairs have a smaller size.
  pub record IsSearched (s n : ℕ) (w : walk.Walk) : Type 0 where
    pub code : w.code.items ≡ []
    pub few : length w.codes ≤ r.take
    pub due : (es : List Applicative) × (w.codes ≡ map code_of es) × IsDueFront (IsDue (IsGenerated book 0) r) r.cost s ⊥ es
    pub made : MadeIs s 0 n

  -- The page is known at size s by these codes, and not too many terms are held for it.
  pub record IsFound (pool s : ℕ) (codes : List (List ℕ)) : Type 0 where
    pub within : s ≤ r.max
    pub due : AreDueCodes book r (s + 1) codes
    pub known : (r.take < length codes) ⊎ (s ≡ r.max)
    pub fits : FitsPool book r pool

-- what is asked for
abbrev pub asked : plan.Plan → search.Search → Request
asked p q = request p.costs.now (option_copied q.after) q.max_size p.take

-- The guide and the search are right for the book and these costs.
pub record IsSearchBy (book : List (List (Rule ℕ))) (costs : List ℕ) (g : guide.Guide) (q : search.Search) : Type 0 where
  pub guide : IsGuide book (cost_of costs) g
  pub width : length book ≡ q.width
  pub some : 1 ≤ q.width
  pub node : g.start ≡ 0
  pub start : IsStart (cost_of costs) (option_copied q.after) q.from q.code.now

-- the plan and the search are
abbrev pub IsSearch : List (List (Rule ℕ)) → plan.Plan → search.Search → Type 0
IsSearch book p q = IsSearchBy book p.costs.now p.guide q
