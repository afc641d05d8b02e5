-- internal: the rules of a book by their kinds, and the least sizes by them, as the code makes them
use Rattle.std.specs.Prelude.{ℕ, ◌≡◌, ◌+◌, ◌<◌, ◌≤◌, nat_eq, List, [], ◌∷◌, length, map, slice_index, slice_index_or, if◌then◌else◌, Vec}
use Rattle.std.specs.Global.{Global}
use Rattle.std.specs.List.{flat_map}
use Rattle.cls_base.specs.declared.rule.Rule.{Rule}
use Rattle.cls_base.specs.declared.rule.Rule.TheVariants.{Any}
use Rattle.cls_base.specs.Languages.{NodeRule}
use Rattle.cls_enum.specs.Members.{IsIn}
use Rattle.cls_walk.specs.Counts.{HeadRule}
use Rattle.cls_walk.specs.FrameColumns.{made_of, pair_of}
use Rattle.cls_walk.specs.Frames.{least_sum, AreLeastSizes}
use Rattle.cls_walk.specs.declared.rules.Made as made
use Rattle.cls_walk.specs.declared.rules.Pair as pair
use Rattle.cls_walk.specs.declared.rules.Rules as rules

-- the pairs of a node, in columns by node
abbrev pub pairs_at : List (Vec pair.Pair Global) → ℕ → List (ℕ × ℕ)
pairs_at columns n = map pair_of (slice_index_or (map (λ v. v.items) columns) n [])

-- what the pairs make that begin with a node, in columns by node
abbrev pub mades_at : List (Vec made.Made Global) → ℕ → List (ℕ × ℕ)
mades_at columns n = map made_of (slice_index_or (map (λ v. v.items) columns) n [])

-- what a pair of node k makes, if it begins with node l
abbrev pub made_one : ℕ → ℕ → ℕ × ℕ → List (ℕ × ℕ)
made_one l k p = if nat_eq p.0 l then (p.1, k) ∷ [] else []

-- the same for pairs
abbrev pub made_by : ℕ → ℕ → List (ℕ × ℕ) → List (ℕ × ℕ)
made_by l k pairs = flat_map (made_one l k) pairs

-- the nodes of each pair are nodes of the book
abbrev pub ArePairsWithin : List (List (Rule ℕ)) → Type 0
ArePairsWithin book = (n l m : ℕ) → NodeRule book n (Any l m) → (l < length book) × (m < length book)

-- the pairs of a node
abbrev pub pairs_in : rules.Rules → ℕ → List pair.Pair
pairs_in r n = slice_index_or (map (λ (v : Vec pair.Pair Global). v.items) r.pairs.items) n []

-- what a head rule comes to, and what a pair comes to
abbrev pub head_size : (ℕ → ℕ) → List ℕ → HeadRule → ℕ
head_size cost least h = cost h.0 + least_sum (slice_index least) h.1

abbrev pub pair_size : List ℕ → ℕ × ℕ → ℕ
pair_size least p = slice_index least p.0 + slice_index least p.1

-- the greatest number that is at most `most` and at most what any of the list comes to
pub record IsLowest (A : Type 0) (own : A → ℕ) (most : ℕ) (xs : List A) (best : ℕ) : Type 0 where
  pub within : best ≤ most
  pub below : (x : A) → IsIn xs x → best ≤ own x
  pub greatest : (k : ℕ) → k ≤ most → ((x : A) → IsIn xs x → k ≤ own x) → k ≤ best

-- the size of a node after one more round, by its head rules and then by its pairs
pub record IsRaised (cost : ℕ → ℕ) (least : List ℕ) (most : ℕ) (heads : List HeadRule) (pairs : List (ℕ × ℕ)) (size : ℕ) : Type 0 where
  pub head : ℕ
  pub by_head : IsLowest HeadRule (head_size cost least) most heads head
  pub by_pair : IsLowest (ℕ × ℕ) (pair_size least) head pairs size

-- the sizes after some rounds, from 1 up, of so many nodes
pub record AreRaised (book : List (List (Rule ℕ))) (cost : ℕ → ℕ) (count most : ℕ) (least : List ℕ) : Type 0 where
  pub long : length least ≡ count
  pub small : (n : ℕ) → slice_index least n ≤ most
  pub some : (n : ℕ) → n < count → 1 ≤ slice_index least n
  pub sizes : AreLeastSizes book (slice_index least) cost
