-- internal: terms that are begun. The walk reads a code from the left; a frame is a component with those of its arguments
-- that are read, and says of which nodes the whole can be, and of which nodes the arguments that are still to come.
use Rattle.std.specs.Prelude.{ℕ, zero, suc, ◌≡◌, ◌+◌, ◌-◌, ◌*◌, ◌≤◌}
use Rattle.std.specs.Prelude.{◌⊎◌, nat_eq, List, [], ◌∷◌, ◌++◌, length, map, if◌then◌else◌}
use Rattle.std.specs.List.{flat_map}
use Rattle.cls_base.specs.declared.rule.Rule.{Rule}
use Rattle.cls_base.specs.declared.rule.Rule.TheVariants.{Head, Any}
use Rattle.cls_base.specs.Terms.{Applicative, size_of}
use Rattle.cls_base.specs.Languages.{NodeRule, IsGenerated, rules_at}
use Rattle.cls_enum.specs.Candidates.{over}
use Rattle.cls_enum.specs.Members.{IsIn}
use Rattle.cls_walk.specs.Counts.{heads_of, pairs_of}
use Rattle.cls_walk.specs.Filled.{code_size}
use Rattle.cls_walk.specs.Forms.{Fills}

-- what is begun, applied to a term of each node of the list in turn, is a term of the node in front
abbrev pub Place : Type 0
Place = ℕ × List ℕ

-- the places, and how many arguments are still to come: the one that is being read is among them
pub record Frame : Type 0 where
  pub places : List Place
  pub left : ℕ

-- what is begun is a term of the node as it is
abbrev pub IsComplete : Frame → ℕ → Type 0
IsComplete f n = IsIn f.places (n, [])

-- the nodes of which it is a term as it is
abbrev pub complete_at : Place → List ℕ
complete_at (l, []) = l ∷ []
complete_at (l, m ∷ rest) = []

abbrev pub complete : Frame → List ℕ
complete f = flat_map complete_at f.places

-- the innermost frame, where there is one, has arguments to come
abbrev pub IsAsking : List Frame → Type 0
IsAsking [] = Unit {0}
IsAsking (f ∷ fs) = 1 ≤ f.left

-- each frame has arguments to come
abbrev pub AreAsking : List Frame → Type 0
AreAsking [] = Unit {0}
AreAsking (f ∷ fs) = (1 ≤ f.left) × AreAsking fs

-- how many nodes are awaited, and that is each time the same
abbrev pub await_count : List Frame → ℕ
await_count [] = 1
await_count (f ∷ fs) = f.left + await_count fs - 1

-- the same places, each at least once
pub record AreSame (whole places : List Place) : Type 0 where
  pub each : (p : Place) → IsIn places p → IsIn whole p
  pub all : (p : Place) → IsIn whole p → IsIn places p

module _ (book : List (List (Rule ℕ))) where
  -- a term of node l, applied to a term of each node of the list in turn, is a term of node n by pairs of nodes
  abbrev pub Reaches : ℕ → List ℕ → ℕ → Type 0
  Reaches l [] n = l ≡ n
  Reaches l (m ∷ ms) n = (k : ℕ) × NodeRule book k (Any l m) × Reaches k ms n

  -- with terms of the nodes ns, which are as many as are to come, the frame makes a term of node n
  pub record Makes (f : Frame) (n : ℕ) (ns : List ℕ) : Type 0 where
    pub node : ℕ
    pub rest : List ℕ
    pub more : List ℕ
    pub place : IsIn f.places (node, rest)
    pub reached : Reaches node more n
    pub awaited : ns ≡ rest ++ more
    pub counted : length ns ≡ f.left

  -- The nodes ns are awaited by the frame and then by what is below, which awaits a term of the frame first.
  pub record AwaitsOver (f : Frame) (Below : List ℕ → Type 0) (ns : List ℕ) : Type 0 where
    pub node : ℕ
    pub own : List ℕ
    pub others : List ℕ
    pub makes : Makes f node own
    pub below : Below (node ∷ others)
    pub both : ns ≡ own ++ others

  -- A stack of frames, the innermost first: the nodes ns are awaited, the next one first. The outermost frame makes a
  -- term of the start.
  abbrev pub Awaits : ℕ → List Frame → List ℕ → Type 0
  Awaits start [] ns = ns ≡ start ∷ []
  Awaits start (f ∷ fs) ns = AwaitsOver f (Awaits start fs) ns

  -- w is the codes, one after another, of terms of nodes that are awaited
  abbrev pub FilledBy : ℕ → List Frame → List ℕ → Type 0
  FilledBy start frames w = (ns : List ℕ) × Awaits start frames ns × Fills book ns w

  -- and they have this size together, and no more than so many component occurrences
  pub record ListsBy (cost : ℕ → ℕ) (start : ℕ) (frames : List Frame) (size room : ℕ) (w : List ℕ) : Type 0 where
    pub filled : FilledBy start frames w
    pub sized : code_size cost w ≡ size
    pub short : length w ≤ 2 * room

  -- The frame is what is begun by component x with k arguments, where `Below` is awaited. A place may be missing if
  -- what is awaited with it isn't kept.
  pub record IsOpened (Below Kept : List ℕ → Type 0) (x k : ℕ) (f : Frame) : Type 0 where
    pub count : f.left ≡ k
    pub each : (l : ℕ) (ns : List ℕ) → IsIn f.places (l, ns) → NodeRule book l (Head x ns)
    pub all : (n l : ℕ) (ns ms js : List ℕ) → Below (n ∷ js) → NodeRule book l (Head x ns) → Reaches l ms n
        → length (ns ++ ms) ≡ k → Kept ((ns ++ ms) ++ js) → IsIn f.places (l, ns)

  -- what a place becomes when its next argument is a term of node m
  abbrev pub Follows : Place → ℕ → Place → Type 0
  Follows (l, []) m q = NodeRule book q.0 (Any l m) × (q.1 ≡ [])
  Follows (l, n ∷ rest) m q = (n ≡ m) × (q ≡ (l, rest))

  -- the frame behind an argument that is a term of each of these nodes
  pub record IsAdvanced (Has : ℕ → Type 0) (old new : Frame) : Type 0 where
    pub count : old.left ≡ new.left + 1
    pub each : (q : Place) → IsIn new.places q → (p : Place) × (m : ℕ) × IsIn old.places p × Has m × Follows p m q
    pub all : (p q : Place) (m : ℕ) → IsIn old.places p → Has m → Follows p m q → IsIn new.places q

  -- From a frame on others on, arguments end until one is to come, or the outermost frame is whole.
  pub data Settles : Frame → List Frame → List Frame → Type 0 where
    whole : {f : Frame} → Settles f [] (f ∷ [])
    asking : {f : Frame} {fs : List Frame} → 1 ≤ f.left → Settles f fs (f ∷ fs)
    ended : {f g h : Frame} {fs frames : List Frame}
        → f.left ≡ 0 → IsAdvanced (IsComplete f) g h → Settles h fs frames → Settles f (g ∷ fs) frames

  -- The same steps as lists. Places may stand there twice.

  -- the node of an argument and the node that is made, for each pair of nodes that begins with l
  abbrev pub pairs_from : ℕ → List (ℕ × ℕ)
  pairs_from l =
      over (length book)
      (λ k. flat_map (λ p. if nat_eq p.0 l then (p.1, k) ∷ [] else []) (pairs_of (rules_at book k)))

  -- the nodes of which the next argument can be
  abbrev pub asked_at : Place → List ℕ
  asked_at (l, []) = map (λ q. q.0) (pairs_from l)
  asked_at (l, m ∷ rest) = m ∷ []

  abbrev pub asked : ℕ → List Frame → List ℕ
  asked start [] = start ∷ []
  asked start (f ∷ fs) = flat_map asked_at f.places

  -- the nodes of which terms are made into terms of these nodes by q pairs
  abbrev pub back : ℕ → List ℕ → List ℕ
  back zero ns = ns
  back (suc q) ns = flat_map (λ n. map (λ p. p.0) (pairs_of (rules_at book n))) (back q ns)

  -- the places of the head rules of node l with component x and j arguments
  abbrev pub places_at : ℕ → ℕ → ℕ → List Place
  places_at x j l =
      flat_map (λ h. if nat_eq h.0 x then (if nat_eq (length h.1) j then (l, h.1) ∷ [] else []) else [])
      (heads_of (rules_at book l))

  -- component x with k arguments, where a term of one of these nodes is asked for
  abbrev pub opened : List ℕ → ℕ → ℕ → Frame
  opened nodes x k = record {
    places = over (k + 1) (λ q. flat_map (places_at x (k - q)) (back q nodes));
    left = k;
  }

  -- what becomes of a place when the next argument is a term of each of these nodes
  abbrev pub followed : List ℕ → Place → List Place
  followed nodes (l, []) =
      flat_map (λ q. flat_map (λ m. if nat_eq q.0 m then (q.1, []) ∷ [] else []) nodes) (pairs_from l)
  followed nodes (l, n ∷ rest) = flat_map (λ m. if nat_eq n m then (l, rest) ∷ [] else []) nodes

  abbrev pub advanced : List ℕ → Frame → Frame
  advanced nodes f = record { places = flat_map (followed nodes) f.places; left = f.left - 1 }

-- Sizes, where `least` has a size for each node than which no term of it is smaller.
abbrev pub least_sum : (ℕ → ℕ) → List ℕ → ℕ
least_sum least [] = 0
least_sum least (n ∷ ns) = least n + least_sum least ns

module _ (book : List (List (Rule ℕ))) (least : ℕ → ℕ) where
  -- no rule of a node comes to less
  pub record AreLeastSizes (cost : ℕ → ℕ) : Type 0 where
    pub heads : (n x : ℕ) (ns : List ℕ) → NodeRule book n (Head x ns) → least n ≤ cost x + least_sum least ns
    pub pairs : (n l m : ℕ) → NodeRule book n (Any l m) → least n ≤ least l + least m

  -- each least size within the size is what a rule comes to
  abbrev pub AreTight : (ℕ → ℕ) → ℕ → Type 0
  AreTight cost s =
      (n : ℕ) → least n ≤ s
      → ((x : ℕ) × (ns : List ℕ) × NodeRule book n (Head x ns) × (cost x + least_sum least ns ≤ least n))
      ⊎ ((l : ℕ) × (m : ℕ) × NodeRule book n (Any l m) × (least l + least m ≤ least n))

  -- each node whose least size is within the size has a term that is as small
  abbrev pub AreMet : (ℕ → ℕ) → ℕ → Type 0
  AreMet cost s = (n : ℕ) → least n ≤ s → (e : Applicative) × IsGenerated book n e × (size_of cost e ≤ least n)

  -- nodes are awaited whose least sizes come to no more
  abbrev pub IsCompletable : ℕ → List Frame → ℕ → Type 0
  IsCompletable start frames s = (ns : List ℕ) × Awaits book start frames ns × (least_sum least ns ≤ s)
