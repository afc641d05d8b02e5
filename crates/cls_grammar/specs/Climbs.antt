-- internal: how ranks become known, from the least on, each by a rule whose arguments are known
use Rattle.std.specs.Prelude.{ℕ, suc, ◌≡◌, ◌≢◌, ◌+◌, ◌^◌, ◌≤◌, ◌<◌, List, [], ◌∷◌, ◌++◌, length, take, replicate, Option, Some, None, slice_get, slice_set, slice_index_or, Contains}
use Rattle.cls_base.specs.declared.rule.Rule.{Rule}
use Rattle.cls_base.specs.Languages.{NodeRule, rules_at}
use Rattle.cls_base.specs.Arguments.{arguments_of_rule}
use Rattle.cls_grammar.specs.Ranks.{HasTree}
use Rattle.cls_grammar.specs.declared.waiting.Waiting.{Waiting}

-- the rank of each node if it is known, the nodes in the order in which it became known, and the rules that wait for
-- each node
pub record State : Type 0 where
  pub ranks : List (Option ℕ)
  pub known : List ℕ
  pub waiting : List (List Waiting)

abbrev pub begun : ℕ → State
begun n = record { ranks = replicate n None; known = []; waiting = replicate n [] }

abbrev pub with_rank : State → ℕ → ℕ → State
with_rank s node rank =
    record { ranks = slice_set s.ranks node (Some rank); known = s.known ++ node ∷ []; waiting = s.waiting }

abbrev pub waits_at : State → ℕ → List Waiting
waits_at s node = slice_index_or s.waiting node []

abbrev pub with_waiting : State → ℕ → Waiting → State
with_waiting s node w =
    record { ranks = s.ranks; known = s.known; waiting = slice_set s.waiting node (w ∷ waits_at s node) }

abbrev pub without_waiting : State → ℕ → State
without_waiting s node = record { ranks = s.ranks; known = s.known; waiting = slice_set s.waiting node [] }

-- the rank of the node is known and no more than the height
abbrev pub IsKnown : List (Option ℕ) → ℕ → ℕ → Type 0
IsKnown ranks height node = (rank : ℕ) × (slice_get ranks node ≡ Some (Some rank)) × (rank ≤ height)

abbrev pub AllKnown : List (Option ℕ) → ℕ → List ℕ → Type 0
AllKnown ranks height [] = Unit {0}
AllKnown ranks height (n ∷ ns) = IsKnown ranks height n × AllKnown ranks height ns

-- how many ranks are known
abbrev pub known_count : List (Option ℕ) → ℕ
known_count [] = 0
known_count (None ∷ ranks) = known_count ranks
known_count (Some rank ∷ ranks) = suc (known_count ranks)

abbrev pub wait : ℕ → ℕ → Waiting
wait node rule = record { node = node; rule = rule; argument = 0 }

-- the rules of a node, and of all nodes from one on, each at its first argument
abbrev pub node_waits : ℕ → ℕ → List (Rule ℕ) → List Waiting
node_waits node rule [] = []
node_waits node rule (r ∷ rs) = wait node rule ∷ node_waits node (suc rule) rs

abbrev pub all_waits : ℕ → List (List (Rule ℕ)) → List Waiting
all_waits node [] = []
all_waits node (rs ∷ book) = node_waits node 0 rs ++ all_waits (suc node) book

module _ (book : List (List (Rule ℕ))) where
  -- the rule stands there, and its arguments before the place are known
  pub record Stands (ranks : List (Option ℕ)) (height : ℕ) (w : Waiting) : Type 0 where
    pub rule : Rule ℕ
    pub there : slice_get (rules_at book w.node) w.rule ≡ Some rule
    pub before : AllKnown ranks height (take w.argument (arguments_of_rule rule))

  -- it waits for the node
  pub record Waits (ranks : List (Option ℕ)) (height : ℕ) (w : Waiting) (node : ℕ) : Type 0 where
    pub stands : Stands ranks height w
    pub argument : slice_get (arguments_of_rule stands.rule) w.argument ≡ Some node

  -- it is to go on, and gives its node no rank less than one more than the height
  pub record IsReady (ranks : List (Option ℕ)) (height : ℕ) (w : Waiting) : Type 0 where
    pub stands : Stands ranks height w
    pub within : w.argument ≤ length (arguments_of_rule stands.rule)
    pub high : (h : ℕ) → AllKnown ranks h (arguments_of_rule stands.rule) → height ≤ h

  -- what became of a rule: its node has a rank that is no more than the rule gives it; or it waits for a node whose turn
  -- is to come, at the place or later; or it is to go on
  pub data IsCovered (done : ℕ) (todo : List Waiting) (s : State) (node rule : ℕ) (r : Rule ℕ) : Type 0 where
    settled : (rank : ℕ) → slice_get s.ranks node ≡ Some (Some rank)
        → ((h : ℕ) → AllKnown s.ranks h (arguments_of_rule r) → rank ≤ suc h) → IsCovered done todo s node rule r
    waits : (n : ℕ) (w : Waiting) → w.node ≡ node → w.rule ≡ rule → Contains (waits_at s n) w
        → ((p : ℕ) → p < done → slice_get s.known p ≢ Some n) → IsCovered done todo s node rule r
    pending : (w : Waiting) → w.node ≡ node → w.rule ≡ rule → Contains todo w → IsCovered done todo s node rule r

  -- The nodes at the places before done had their turn, the last of which has this height as its rank.
  pub record IsKept (done height : ℕ) (todo : List Waiting) (s : State) : Type 0 where
    pub few : length book < 2 ^ 32
    pub sized : length s.ranks ≡ length book
    pub queues : length s.waiting ≡ length book
    pub counted : known_count s.ranks ≡ length s.known
    pub passed : done ≤ length s.known
    pub deep : height ≤ done
    pub listed : (p x : ℕ) → slice_get s.known p ≡ Some x → IsKnown s.ranks (p + 1) x
    pub placed : (x rank : ℕ) → slice_get s.ranks x ≡ Some (Some rank) → Contains s.known x
    pub rising : (p q x y r t : ℕ) → p ≤ q → slice_get s.known p ≡ Some x → slice_get s.known q ≡ Some y
        → slice_get s.ranks x ≡ Some (Some r) → slice_get s.ranks y ≡ Some (Some t) → r ≤ t
    pub low : (p x r : ℕ) → p < done → slice_get s.known p ≡ Some x → slice_get s.ranks x ≡ Some (Some r) → r ≤ height
    pub high : (p x r : ℕ) → done ≤ p → slice_get s.known p ≡ Some x → slice_get s.ranks x ≡ Some (Some r) → height ≤ r
    pub top : (x r : ℕ) → slice_get s.ranks x ≡ Some (Some r) → r ≤ height + 1
    pub sound : (x r : ℕ) → slice_get s.ranks x ≡ Some (Some r) → HasTree ℕ (NodeRule book) r x
    pub waiting : (n : ℕ) (w : Waiting) → Contains (waits_at s n) w → Waits s.ranks height w n
    pub ready : (w : Waiting) → Contains todo w → IsReady s.ranks height w
    pub covered : (node rule : ℕ) (r : Rule ℕ) → slice_get (rules_at book node) rule ≡ Some r
        → IsCovered done todo s node rule r
