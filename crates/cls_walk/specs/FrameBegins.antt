-- internal: the places that an opening begins, by the head rules of the node of an aim
use Rattle.std.specs.Prelude.{ℕ, ◌≡◌, ◌⊎◌, ◌+◌, ◌≤◌, ◌<◌, List, [], length, map, slice_index, slice_index_or, Vec}
use Rattle.std.specs.Global.{Global}
use Rattle.cls_enum.specs.Members.{IsIn}
use Rattle.cls_walk.specs.Counts.{HeadRule}
use Rattle.cls_walk.specs.FrameColumns.{head_of}
use Rattle.cls_walk.specs.Frames.{Place}
use Rattle.cls_walk.specs.Tables.{capped}
use Rattle.cls_walk.specs.declared.aims.Aim as aim
use Rattle.cls_walk.specs.declared.aims.Span as span
use Rattle.cls_walk.specs.declared.rules.Head as head
use Rattle.cls_walk.specs.declared.rules.Rules as rules

abbrev pub aim_of : aim.Aim → ℕ × ℕ
aim_of a = (a.node, a.behind)

abbrev pub no_head : head.Head
no_head = record { component = 0; nodes = record { ref_ptr = (0, 0); now = [] } }

-- the numbers are what the head rules come to
abbrev pub AreTotals : (HeadRule → ℕ) → List head.Head → List ℕ → Type 0
AreTotals own heads sizes = (i : ℕ) → i < length heads → slice_index sizes i ≡ capped (own (head_of (slice_index_or heads i no_head)))

-- the head rules with this opening stand in the span
abbrev pub Covers : span.Span → ℕ → ℕ → List head.Head → Type 0
Covers s x j heads =
    (i : ℕ) → i < length heads → (slice_index_or heads i no_head).component ≡ x → length (slice_index_or heads i no_head).nodes.now ≡ j
    → (s.first ≤ i) × (i < s.end)

-- the head rule stands before those with component x and j arguments
abbrev pub StandsBefore : ℕ → ℕ → HeadRule → Type 0
StandsBefore x j h = (h.0 < x) ⊎ ((h.0 ≡ x) × (length h.1 < j))

-- so do all before this place
abbrev pub AreBefore : ℕ → ℕ → ℕ → List head.Head → Type 0
AreBefore place x j heads = (i : ℕ) → i < place → StandsBefore x j (head_of (slice_index_or heads i no_head))

-- and none from it on
abbrev pub AreFrom : ℕ → ℕ → ℕ → List head.Head → Type 0
AreFrom place x j heads = (i : ℕ) → place ≤ i → i < length heads → StandsBefore x j (head_of (slice_index_or heads i no_head)) → ⊥

-- none from this place on has component x and j arguments
abbrev pub AreNone : ℕ → ℕ → ℕ → List head.Head → Type 0
AreNone place x j heads =
    (i : ℕ) → place ≤ i → i < length heads → (slice_index_or heads i no_head).component ≡ x → length (slice_index_or heads i no_head).nodes.now ≡ j → ⊥

module _ (own : HeadRule → ℕ) (a : ℕ × ℕ) (x j size : ℕ) where
  -- the head rule has the opening, and comes to no more than the size with what is behind the aim; q is its place
  pub record IsBegunWith (h : HeadRule) (q : Place) : Type 0 where
    pub component : h.0 ≡ x
    pub count : length h.1 ≡ j
    pub small : own h + a.1 ≤ size
    pub place : q ≡ (a.0, h.1)

  -- the same for one of these head rules
  abbrev pub IsBegunBy : List HeadRule → Place → Type 0
  IsBegunBy heads q = (h : HeadRule) × IsIn heads h × IsBegunWith h q

-- the head rules of a node
abbrev pub heads_in : rules.Rules → ℕ → List head.Head
heads_in r n = slice_index_or (map (λ (v : Vec head.Head Global). v.items) r.heads.items) n []

-- the same for each aim of a level
abbrev pub AreBegun : (HeadRule → ℕ) → rules.Rules → List (ℕ × ℕ) → ℕ → ℕ → ℕ → Place → Type 0
AreBegun own r level x j size q =
    (a : ℕ × ℕ) × IsIn level a × IsBegunBy own a x j size (map head_of (heads_in r a.0)) q

-- the columns have what the head rules come to
abbrev pub AreSized : (HeadRule → ℕ) → rules.Rules → List (List ℕ) → Type 0
AreSized own r sizes = (n : ℕ) → AreTotals own (heads_in r n) (slice_index_or sizes n [])
