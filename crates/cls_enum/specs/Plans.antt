-- internal: rules as they are kept while a page is made
use Rattle.std.specs.Prelude.{ℕ, zero, suc, ◌≡◌, ◌≤◌, ◌<◌, ◌+◌, ◌-◌, ◌⊎◌, List, [], ◌∷◌, ◌++◌, length, map, nat_le, if◌then◌else◌, slice_index, slice_index_or}
use Rattle.std.specs.List.{flat_map}
use Rattle.cls_base.specs.Limits.{max_term_length}
use Rattle.cls_base.specs.Terms.{Applicative, component, length_of, size_of}
use Rattle.cls_base.specs.declared.rule.Rule.{Rule}
use Rattle.cls_base.specs.declared.rule.Rule.TheVariants as rules
use Rattle.cls_base.specs.Languages.{Applies, NodeRule}
use Rattle.cls_enum.specs.Candidates.{over, fills, IsInCell}
use Rattle.cls_enum.specs.Members.{IsIn}
use Rattle.cls_enum.specs.declared.plan.Place.{Place}
use Rattle.cls_enum.specs.declared.plan.Plan.{Plan}
use Rattle.cls_enum.specs.declared.plan.Plan.TheVariants.{Head, Any}

abbrev pub nodes_of : List Place → List ℕ
nodes_of places = map (λ p. p.node) places

-- the rule that a plan is of
abbrev pub rule_of : Plan → Rule ℕ
rule_of (Head x c places) = rules.Head x (nodes_of places.items)
rule_of (Any l places) = rules.Any l (slice_index_or (nodes_of places.items) 0 0)

abbrev pub rules_of : List Plan → List (Rule ℕ)
rules_of plans = map rule_of plans

-- a head has its cost beside it, and for any term applied to any there is one place
abbrev pub IsPlan : (ℕ → ℕ) → Plan → Type 0
IsPlan cost (Head x c places) = c ≡ cost x
IsPlan cost (Any l places) = length places.items ≡ 1

abbrev pub places_of : Plan → List Place
places_of (Head x c places) = places.items
places_of (Any l places) = places.items

-- too many occurrences, with the fewest that are still to come
abbrev pub IsBarren : List Place → ℕ → ℕ → Type 0
IsBarren [] rest occurrences = (0 < rest) ⊎ (max_term_length < occurrences)
IsBarren (p ∷ places) rest occurrences = max_term_length < occurrences + slice_index p.least.items rest

-- where the places say so, no short term is found
abbrev pub ArePruned : (ℕ → ℕ → List Applicative) → List Place → Type 0
ArePruned cell [] = Unit {0}
ArePruned cell (p ∷ places) = ((rest : ℕ) (f : Applicative) → max_term_length < length_of f + slice_index p.least.items rest → fills cell f (p.node ∷ nodes_of places) rest ≡ []) × ArePruned cell places

-- the places say nothing yet
abbrev pub AreFree : List Place → Type 0
AreFree [] = Unit {0}
AreFree (p ∷ places) = (p.least.items ≡ []) × AreFree places

module _ (book : List (List (Rule ℕ))) (cost : ℕ → ℕ) (s : ℕ) where
  -- terms of the nodes in turn, whose sizes come to `rest`, have at least so many occurrences, or the whole is too long
  abbrev pub IsBound : List ℕ → ℕ → ℕ → Type 0
  IsBound nodes rest bound = (f e : Applicative) → Applies ℕ (NodeRule book) f nodes e → size_of cost e ≡ size_of cost f + rest → (length_of f + bound ≤ length_of e) ⊎ (max_term_length < length_of e)

  -- each place has such bounds for rests below s
  abbrev pub AreBounds : List Place → Type 0
  AreBounds [] = Unit {0}
  AreBounds (p ∷ places) = (length p.least.items ≤ s) × ((rest : ℕ) → IsBound (p.node ∷ nodes_of places) rest (slice_index p.least.items rest)) × AreBounds places

  pub record IsReady (plan : Plan) : Type 0 where
    pub planned : IsPlan cost plan
    pub bounds : AreBounds (places_of plan)

  abbrev pub AreReady : List Plan → Type 0
  AreReady [] = Unit {0}
  AreReady (p ∷ plans) = IsReady p × AreReady plans

module _ (cell : ℕ → ℕ → List Applicative) where
  -- the terms of size s that a plan makes
  abbrev pub plan_terms : ℕ → Plan → List Applicative
  plan_terms s (Head x c places) = if nat_le c s then fills cell (component x) (nodes_of places.items) (s - c) else []
  plan_terms s (Any l places) = over s (λ t. flat_map (λ f. fills cell f (nodes_of places.items) (s - t)) (cell t l))

  abbrev pub plan_candidates : ℕ → List Plan → List Applicative
  plan_candidates s plans = flat_map (plan_terms s) plans

  abbrev pub PlansPruned : List Plan → Type 0
  PlansPruned [] = Unit {0}
  PlansPruned (p ∷ plans) = ArePruned cell (places_of p) × PlansPruned plans

-- the rules of each node
abbrev pub book_of : List (List Plan) → List (List (Rule ℕ))
book_of plans = map (λ ps. map rule_of ps) plans

abbrev pub AllReady : List (List (Rule ℕ)) → (ℕ → ℕ) → ℕ → List (List Plan) → Type 0
AllReady book cost s [] = Unit {0}
AllReady book cost s (ps ∷ plans) = AreReady book cost s ps × AllReady book cost s plans

-- how many occurrences the terms at the places have at least, as far as the places say
abbrev pub after : List Place → ℕ → ℕ
after [] zero = 0
after [] (suc rest) = max_term_length + 1
after (p ∷ places) rest = slice_index p.least.items rest

-- the cells have every short term of their node and size
abbrev pub AreWhole : List (List (Rule ℕ)) → (ℕ → ℕ) → (ℕ → ℕ → List Applicative) → ℕ → Type 0
AreWhole book cost cell s = (t : ℕ) → t ≤ s → (n : ℕ) (e : Applicative) → IsInCell book cost n t e → IsIn (cell t n) e

-- what the place says stays, or it says one more
abbrev pub IsExtended : (ℕ → ℕ → List Applicative) → ℕ → List Place → ℕ → List ℕ → List ℕ → Type 0
IsExtended cell node others s old new = (new ≡ old) ⊎ ((length old ≡ s) × (b : ℕ) × (new ≡ old ++ b ∷ []) × ((t : ℕ) → t ≤ s → (a : Applicative) → IsIn (cell t node) a → b ≤ length_of a + after others (s - t)) × (b ≤ max_term_length + 1))

-- what holds of the old for sizes below s holds of the new for one size more, where the cells have every short term
abbrev pub GoesOn : {A : Type 0} → (List (List (Rule ℕ)) → (ℕ → ℕ) → ℕ → A → Type 0) → (ℕ → ℕ → List Applicative) → ℕ → A → A → Type 0
GoesOn Holds cell s old new =
    (book : List (List (Rule ℕ))) (cost : ℕ → ℕ) → AreWhole book cost cell s → Holds book cost s old → Holds book cost (s + 1) new
