-- internal: of which nodes the next argument can be, each with a size that what is awaited behind it can come to
use Rattle.std.specs.Prelude.{ℕ, zero, suc, ◌≡◌, ◌+◌, ◌-◌, ◌<◌, ◌≤◌}
use Rattle.std.specs.Prelude.{nat_eq, nat_le, List, [], ◌∷◌, length, map, if◌then◌else◌}
use Rattle.std.specs.List.{flat_map}
use Rattle.cls_base.specs.declared.rule.Rule.{Rule}
use Rattle.cls_base.specs.declared.rule.Rule.TheVariants.{Head}
use Rattle.cls_base.specs.Languages.{NodeRule, rules_at}
use Rattle.cls_enum.specs.Candidates.{over}
use Rattle.cls_enum.specs.Members.{IsIn}
use Rattle.cls_walk.specs.Counts.{HeadRule, heads_of, pairs_of}
use Rattle.cls_walk.specs.Frames.{Place, Frame, Awaits, least_sum}

-- a node, and the size behind it
abbrev pub Aim : Type 0
Aim = ℕ × ℕ

-- the start, and nothing behind it
abbrev pub start_aims : ℕ → List Aim
start_aims start = (start, 0) ∷ []

-- Nothing is there that the whole list hasn't, and for each aim of it one with the same node and no greater size.
pub record AreThinned (whole part : List Aim) : Type 0 where
  pub each : (a : Aim) → IsIn part a → IsIn whole a
  pub all : (n b : ℕ) → IsIn whole (n, b) → (c : ℕ) × IsIn part (n, c) × (c ≤ b)

-- places of the whole list, where each stands with what it comes to: all that come to no more than the size
pub record AreKept (size : ℕ) (whole : List (Place × ℕ)) (places : List Place) : Type 0 where
  pub each : (p : Place) → IsIn places p → (b : ℕ) × IsIn whole (p, b)
  pub all : (p : Place) (b : ℕ) → IsIn whole (p, b) → b ≤ size → IsIn places p

module _ (book : List (List (Rule ℕ))) (least : ℕ → ℕ) where
  -- Each aim is met by nodes that are awaited, and none is missing that is met by less.
  pub record AreAims (start : ℕ) (frames : List Frame) (aims : List Aim) : Type 0 where
    pub each : (n b : ℕ) → IsIn aims (n, b)
        → (js : List ℕ) × Awaits book start frames (n ∷ js) × (least_sum least js ≤ b)
    pub all : (n : ℕ) (js : List ℕ) → Awaits book start frames (n ∷ js)
        → (b : ℕ) × IsIn aims (n, b) × (b ≤ least_sum least js)

  -- the nodes from which the aim is reached by one pair
  abbrev pub stepped : Aim → List Aim
  stepped a = map (λ p. (p.0, least p.1 + a.1)) (pairs_of (rules_at book a.0))

  -- level q has the nodes from which an aim, as level 0 has them, is reached by q pairs, for q up to `most`
  abbrev pub AreLevels : ℕ → (ℕ → List Aim) → Type 0
  AreLevels most levels = (q : ℕ) → q < most → AreThinned (flat_map stepped (levels q)) (levels (suc q))

  -- with nothing left out
  abbrev pub whole_levels : List Aim → ℕ → List Aim
  whole_levels aims zero = aims
  whole_levels aims (suc q) = flat_map stepped (whole_levels aims q)

  -- the place of a head rule, and what it comes to
  abbrev pub placed : Aim → HeadRule → Place × ℕ
  placed a h = ((a.0, h.1), least_sum least h.1 + a.1)

  -- those of the head rules of a node with component x and j arguments
  abbrev pub places_with : ℕ → ℕ → Aim → List (Place × ℕ)
  places_with x j a =
      flat_map (λ h. if nat_eq h.0 x then (if nat_eq (length h.1) j then placed a h ∷ [] else []) else [])
      (heads_of (rules_at book a.0))

  -- the places of component x with k arguments that lead to an aim
  abbrev pub opened_with : (ℕ → List Aim) → ℕ → ℕ → List (Place × ℕ)
  opened_with levels x k = over (k + 1) (λ q. flat_map (places_with x (k - q)) (levels q))

  -- one of them comes to no more than the size
  abbrev pub Offers : (ℕ → List Aim) → ℕ → ℕ → ℕ → Type 0
  Offers levels size x k = (p : Place) × (b : ℕ) × IsIn (opened_with levels x k) (p, b) × (b ≤ size)

  -- the same by a head rule of a node of a level
  pub record OffersBy (levels : ℕ → List Aim) (size x k : ℕ) : Type 0 where
    pub pairs : ℕ
    pub node : ℕ
    pub behind : ℕ
    pub nodes : List ℕ
    pub aim : IsIn (levels pairs) (node, behind)
    pub rule : NodeRule book node (Head x nodes)
    pub count : length nodes + pairs ≡ k
    pub small : least_sum least nodes + behind ≤ size

  -- these are all of them that come to no more than the size; others of them may be there too
  abbrev pub AreOffered : (ℕ → List Aim) → ℕ → ℕ → ℕ → List Place → Type 0
  AreOffered levels size x k places = AreKept size (opened_with levels x k) places

  -- by a pair that begins with node l, where what it makes comes to so much
  abbrev pub aimed_by : ℕ → Aim → List Aim
  aimed_by l a =
      flat_map (λ p. if nat_eq p.0 l then (p.1, a.1) ∷ [] else []) (pairs_of (rules_at book a.0))

  -- The aims of a frame on others, where these have the levels: by one of its places with so many arguments to come,
  -- and by each place.
  abbrev pub aims_at : (ℕ → List Aim) → ℕ → Place → List Aim
  aims_at levels left (l, []) = flat_map (aimed_by l) (levels (left - 1))
  aims_at levels left (l, m ∷ rest) =
      if nat_le (length rest + 1) left
      then
      flat_map (λ a. if nat_eq a.0 l then (m, least_sum least rest + a.1) ∷ [] else [])
      (levels (left - (length rest + 1)))
      else []

  abbrev pub next_aims : (ℕ → List Aim) → Frame → List Aim
  next_aims levels f = flat_map (aims_at levels f.left) f.places
