-- How ranks become known: each step keeps what holds, and at the end it makes ranks.
use Rattle.std.proofs.Common.{◌≡◌, ◌≢◌, ℕ, zero, suc, ◌+◌, ◌<◌, ◌≤◌, ◌==◌, Bool, true, false, List, [], ◌∷◌, ◌++◌, Option, None, Some, length, set, take, drop, get_or, slice_get, refl, sym, ap, subst, ◌∙◌, arith, ◌⊎◌, inl, inr, length-set, length-append, get_or-set_same, get_or-set_other, add-one, drop-cons, ◌^◌}
use Rattle.std.specs.Prelude.{replicate, Contains}
use Rattle.std.proofs.lemmas.Bool.Decides.{nat_tests}
use Rattle.std.proofs.lemmas.List.{length-replicate, get_or-replicate}
use Rattle.std.proofs.lemmas.Option.{slice_get_within, get_or_from_slice_get}
use Rattle.std.proofs.lemmas.List.Elements.{Contains-append_left, Contains-append_right, Contains-append_cases}
use Rattle.cls_base.specs.declared.rule.Rule.{Rule}
use Rattle.cls_base.specs.declared.rule.Rule.TheVariants.{Head, Any}
use Rattle.cls_base.specs.Languages.{NodeRule, rules_at}
use Rattle.cls_base.specs.Lists.{AreBelow}
use Rattle.cls_base.proofs.Lists.{Contains-nil, Contains-here, Contains-later, Contains-cases, Contains-head, Contains-at, Contains-place}
use Rattle.cls_core.proofs.Columns.{get-set-same, get-set-other, get-some}
use Rattle.cls_base.specs.Arguments.{arguments_of_rule}
use Rattle.cls_grammar.specs.Ranks.{HasTree, HaveTrees, head_tree, any_tree, no_trees, more_trees, IsRankIn, AreRanks}
use Rattle.cls_grammar.specs.declared.waiting.Waiting.{Waiting}
use Rattle.cls_grammar.specs.Climbs.{State, begun, with_rank, waits_at, with_waiting, without_waiting, IsKnown, AllKnown, known_count, wait, node_waits, all_waits, Stands, Waits, IsReady, IsCovered, settled, waits, pending, IsKept}
use Rattle.cls_grammar.proofs.Trees.{tree_up}
use Rattle.cls_grammar.specs.Grammars.{BookHasNodesBelow}
use Rattle.cls_base.specs.Books.{HasNodesBelow, HaveNodesBelow}

pub equal-or-not : (a z : ℕ) → (a ≡ z) ⊎ (a ≢ z)
equal-or-not a z = by (a == z) refl
  where
    by : (b : Bool) → (a == z) ≡ b → (a ≡ z) ⊎ (a ≢ z)
    by true e = inl (grind (arith, nat_tests))
    by false e = inr (grind (arith, nat_tests))

less-or-not : (a z : ℕ) → (a < z) ⊎ (z ≤ a)
less-or-not a z = grind arith

-- one rank is written
set-cases : (ranks : List (Option ℕ)) (z k a r : ℕ) → slice_get (set ranks z (Some k)) a ≡ Some (Some r) → ((a ≡ z) × (r ≡ k)) ⊎ ((a ≢ z) × (slice_get ranks a ≡ Some (Some r)))
set-cases ranks z k a r e = by (equal-or-not a z)
  where
    by : (a ≡ z) ⊎ (a ≢ z) → ((a ≡ z) × (r ≡ k)) ⊎ ((a ≢ z) × (slice_get ranks a ≡ Some (Some r)))
    by (inl s) =
        let less : z < length ranks = omega (arith, slice_get_within (set ranks z (Some k)) a (Some r) e, length-set ranks z (Some k)) in
        let now = get-set-same ranks z (Some k) less in
        let at : slice_get (set ranks z (Some k)) z ≡ Some (Some r) = subst (λ b. slice_get (set ranks z (Some k)) b ≡ Some (Some r)) s e in
        inl (s, (let p : r ≡ k = cc in p))
    by (inr n) = inr (n, sym (get-set-other ranks z a (Some k) n) ∙ e)

unranked-other : (ranks : List (Option ℕ)) (z a r : ℕ) → slice_get ranks z ≡ Some None → slice_get ranks a ≡ Some (Some r) → a ≢ z
unranked-other ranks z a r e f s = let g : slice_get ranks z ≡ Some (Some r) = subst (λ b. slice_get ranks b ≡ Some (Some r)) s f in cc

kept-rank : (ranks : List (Option ℕ)) (z k a r : ℕ) → slice_get ranks z ≡ Some None → slice_get ranks a ≡ Some (Some r) → slice_get (set ranks z (Some k)) a ≡ Some (Some r)
kept-rank ranks z k a r e f = get-set-other ranks z a (Some k) (unranked-other ranks z a r e f) ∙ f

known-more : (ranks : List (Option ℕ)) (h k a : ℕ) → h ≤ k → IsKnown ranks h a → IsKnown ranks k a
known-more ranks h k a l u = let m = u.2 in (u.0, u.1, omega arith)

all-more : (ranks : List (Option ℕ)) (h k : ℕ) (ns : List ℕ) → h ≤ k → AllKnown ranks h ns → AllKnown ranks k ns
all-more ranks h k [] l u = tt
all-more ranks h k (n ∷ ns) l u = (known-more ranks h k n l u.0, all-more ranks h k ns l u.1)

known-keep : (ranks : List (Option ℕ)) (z k h a : ℕ) → slice_get ranks z ≡ Some None → IsKnown ranks h a → IsKnown (set ranks z (Some k)) h a
known-keep ranks z k h a e u = (u.0, kept-rank ranks z k a u.0 e u.1, u.2)

all-keep : (ranks : List (Option ℕ)) (z k h : ℕ) (ns : List ℕ) → slice_get ranks z ≡ Some None → AllKnown ranks h ns → AllKnown (set ranks z (Some k)) h ns
all-keep ranks z k h [] e u = tt
all-keep ranks z k h (n ∷ ns) e u = (known-keep ranks z k h n e u.0, all-keep ranks z k h ns e u.1)

known-back : (ranks : List (Option ℕ)) (z k h a : ℕ) → h < k → IsKnown (set ranks z (Some k)) h a → IsKnown ranks h a
known-back ranks z k h a l u = let m = u.2 in elim (set-cases ranks z k a u.0 u.1) [ inl p ↦ (let q = p.1 in absurd (omega arith)) | inr p ↦ (u.0, p.1, u.2) ]

all-back : (ranks : List (Option ℕ)) (z k h : ℕ) (ns : List ℕ) → h < k → AllKnown (set ranks z (Some k)) h ns → AllKnown ranks h ns
all-back ranks z k h [] l u = tt
all-back ranks z k h (n ∷ ns) l u = (known-back ranks z k h n l u.0, all-back ranks z k h ns l u.1)

-- one of a list of known ones
one-known : (ranks : List (Option ℕ)) (h p n : ℕ) (ns : List ℕ) → slice_get ns p ≡ Some n → AllKnown ranks h ns → IsKnown ranks h n
one-known ranks h p n [] e u = cc
one-known ranks h zero n (m ∷ ns) e u = subst (IsKnown ranks h) (let f : m ≡ n = cc in f) u.0
one-known ranks h (suc p) n (m ∷ ns) e u = one-known ranks h p n ns e u.1

all-next : (ranks : List (Option ℕ)) (h p : ℕ) (ns : List ℕ) → p < length ns → AllKnown ranks h (take p ns) → IsKnown ranks h (get_or ns p 0) → AllKnown ranks h (take (suc p) ns)
all-next ranks h p [] l u k = absurd (omega arith)
all-next ranks h zero (m ∷ ns) l u k = (k, tt)
all-next ranks h (suc p) (m ∷ ns) l u k = (u.0, all-next ranks h p ns (omega arith) u.1 k)

pub all-front : (ranks : List (Option ℕ)) (h p : ℕ) (ns : List ℕ) → p < length ns → AllKnown ranks h (take p ns) → IsKnown ranks h (get_or ns p 0) → AllKnown ranks h (take (p + 1) ns)
all-front ranks h p ns l u k = let P : ℕ → Type 0 = λ n. AllKnown ranks h (take n ns) in let e : suc p ≡ p + 1 = omega arith in subst P e (all-next ranks h p ns l u k)

pub all-whole : (ranks : List (Option ℕ)) (h p : ℕ) (ns : List ℕ) → length ns ≤ p → AllKnown ranks h (take p ns) → AllKnown ranks h ns
all-whole ranks h p [] l u = tt
all-whole ranks h zero (n ∷ ns) l u = absurd (omega arith)
all-whole ranks h (suc p) (n ∷ ns) l u = (u.0, all-whole ranks h p ns (omega arith) u.1)

-- one node more is known
push-cases : (ks : List ℕ) (z p x : ℕ) → slice_get (ks ++ z ∷ []) p ≡ Some x → (slice_get ks p ≡ Some x) ⊎ ((p ≡ length ks) × (x ≡ z))
push-cases [] z zero x e = inr (refl, (let f : x ≡ z = cc in f))
push-cases [] z (suc p) x e = cc
push-cases (k ∷ ks) z zero x e = inl e
push-cases (k ∷ ks) z (suc p) x e = elim (push-cases ks z p x e) [ inl f ↦ inl f | inr f ↦ inr (ap suc f.0, f.1) ]

pub push-last : (ks : List ℕ) (z : ℕ) → slice_get (ks ++ z ∷ []) (length ks) ≡ Some z
push-last [] z = refl
push-last (k ∷ ks) z = push-last ks z

count-more : (ranks : List (Option ℕ)) (z k : ℕ) → slice_get ranks z ≡ Some None → known_count (set ranks z (Some k)) ≡ suc (known_count ranks)
count-more [] z k e = cc
count-more (None ∷ ranks) zero k e = refl
count-more (Some r ∷ ranks) zero k e = cc
count-more (None ∷ ranks) (suc z) k e = count-more ranks z k e
count-more (Some r ∷ ranks) (suc z) k e = ap suc (count-more ranks z k e)

count-within : (ranks : List (Option ℕ)) → known_count ranks ≤ length ranks
count-within [] = omega arith
count-within (None ∷ ranks) = let h = count-within ranks in omega arith
count-within (Some r ∷ ranks) = let h = count-within ranks in omega arith

count-less : (ranks : List (Option ℕ)) (z : ℕ) → slice_get ranks z ≡ Some None → known_count ranks < length ranks
count-less [] z e = cc
count-less (None ∷ ranks) zero e = let h = count-within ranks in omega arith
count-less (Some r ∷ ranks) zero e = cc
count-less (None ∷ ranks) (suc z) e = let h = count-less ranks z e in omega arith
count-less (Some r ∷ ranks) (suc z) e = let h = count-less ranks z e in omega arith

-- the lists of what waits, one of them written
waits-same : (s : State) (z : ℕ) (ws : List Waiting) → z < length s.waiting → get_or (set s.waiting z ws) z [] ≡ ws
waits-same s z ws l = get_or-set_same s.waiting z ws [] l

waits-other : (s : State) (z n : ℕ) (ws : List Waiting) → n ≢ z → get_or (set s.waiting z ws) n [] ≡ waits_at s n
waits-other s z n ws d = get_or-set_other s.waiting z n ws [] d

pub none-at : {A : Type 0} (n i : ℕ) (x y : A) → slice_get (replicate n x) i ≡ Some y → y ≡ x
none-at n i x y e = let l = slice_get_within (replicate n x) i y e in sym (get_or_from_slice_get (replicate n x) i y y e) ∙ get_or-replicate n i x y (omega (arith, l, length-replicate n x))

pub get-read : (ns : List ℕ) (p : ℕ) → p < length ns → slice_get ns p ≡ Some (get_or ns p 0)
get-read [] p l = absurd (omega arith)
get-read (n ∷ ns) zero l = refl
get-read (n ∷ ns) (suc p) l = get-read ns p (omega arith)

pub drop-next : {A : Type 0} (q : List A) (i : ℕ) (x : A) → i < length q → x ≡ get_or q i x → drop i q ≡ x ∷ drop (i + 1) q
drop-next q i x l e = rw add-one (drop-cons q i x l ∙ ap (λ y. y ∷ drop (suc i) q) (sym e))

nodes-at : (n : ℕ) (ns : List ℕ) (p x : ℕ) → AreBelow n ns → slice_get ns p ≡ Some x → x < n
nodes-at n [] p x h e = cc
nodes-at n (m ∷ ns) zero x h e = let f : m ≡ x = cc in let l = h.0 in omega arith
nodes-at n (m ∷ ns) (suc p) x h e = nodes-at n ns p x h.1 e

-- past the last node there are no rules
pub rules-none : (b : List (List (Rule ℕ))) (i : ℕ) → length b ≤ i → rules_at b i ≡ []
rules-none [] i l = refl
rules-none (rs ∷ b) zero l = absurd (omega arith)
rules-none (rs ∷ b) (suc i) l = rules-none b i (omega arith)

pub drop-front : {A : Type 0} (q : List A) (i : ℕ) (d : A) → i < length q → drop i q ≡ get_or q i d ∷ drop (i + 1) q
drop-front q i d l = rw add-one (drop-cons q i d l)

pub drop-end : {A : Type 0} (n : ℕ) (xs : List A) → length xs ≤ n → drop n xs ≡ []
drop-end zero [] l = refl
drop-end (suc n) [] l = refl
drop-end zero (x ∷ xs) l = absurd (omega arith)
drop-end (suc n) (x ∷ xs) l = drop-end n xs (omega arith)

pub node-at : (n : ℕ) (ns : List ℕ) (p : ℕ) → AreBelow n ns → p < length ns → get_or ns p 0 < n
node-at n ns p h l = nodes-at n ns p (get_or ns p 0) h (get-read ns p l)

rule-nodes : (n : ℕ) (r : Rule ℕ) → HasNodesBelow n r → AreBelow n (arguments_of_rule r)
rule-nodes n (Head x ns) h = h
rule-nodes n (Any l m) h = (h.0, (h.1, tt))

rule-within : (n : ℕ) (rs : List (Rule ℕ)) (j : ℕ) (r : Rule ℕ) → HaveNodesBelow n rs → slice_get rs j ≡ Some r → HasNodesBelow n r
rule-within n [] j r h e = cc
rule-within n (q ∷ rs) zero r h e = subst (HasNodesBelow n) (let f : q ≡ r = cc in f) h.0
rule-within n (q ∷ rs) (suc j) r h e = rule-within n rs j r h.1 e

pub node-within : (n : ℕ) (book : List (List (Rule ℕ))) (i : ℕ) → BookHasNodesBelow n book → HaveNodesBelow n (rules_at book i)
node-within n [] i h = tt
node-within n (rs ∷ book) zero h = h.0
node-within n (rs ∷ book) (suc i) h = node-within n book i h.1

module _ (book : List (List (Rule ℕ))) where
  abbrev Tree : ℕ → ℕ → Type 0
  Tree h i = HasTree ℕ (NodeRule book) h i

  trees : (ranks : List (Option ℕ)) (h : ℕ) (ns : List ℕ) → ((x r : ℕ) → slice_get ranks x ≡ Some (Some r) → Tree r x) → AllKnown ranks h ns → HaveTrees ℕ (NodeRule book) h ns
  trees ranks h [] f u = no_trees
  trees ranks h (n ∷ ns) f u = more_trees (tree_up ℕ (NodeRule book) (f n u.0.0 u.0.1) h u.0.2) (trees ranks h ns f u.1)

  rule-tree : (ranks : List (Option ℕ)) (h i : ℕ) (r : Rule ℕ) → ((x t : ℕ) → slice_get ranks x ≡ Some (Some t) → Tree t x) → NodeRule book i r → AllKnown ranks h (arguments_of_rule r) → Tree (suc h) i
  rule-tree ranks h i (Head x ns) f c u = head_tree c (trees ranks h ns f u)
  rule-tree ranks h i (Any l m) f c u = any_tree c (tree_up ℕ (NodeRule book) (f l u.0.0 u.0.1) h u.0.2) (tree_up ℕ (NodeRule book) (f m u.1.0.0 u.1.0.1) h u.1.0.2)

  pub argument-within : (r : Rule ℕ) (i j p x : ℕ) → HaveNodesBelow (length book) (rules_at book i) → slice_get (rules_at book i) j ≡ Some r → slice_get (arguments_of_rule r) p ≡ Some x → x < length book
  argument-within r i j p x w e at = nodes-at (length book) (arguments_of_rule r) p x (rule-nodes (length book) r (rule-within (length book) (rules_at book i) j r w e)) at

  pub arguments-within : (r : Rule ℕ) (i j : ℕ) → HaveNodesBelow (length book) (rules_at book i) → slice_get (rules_at book i) j ≡ Some r → AreBelow (length book) (arguments_of_rule r)
  arguments-within r i j w e = rule-nodes (length book) r (rule-within (length book) (rules_at book i) j r w e)

  module _ (done height : ℕ) (w : Waiting) (todo : List Waiting) (s : State) (k : IsKept book done height (w ∷ todo) s) where
    abbrev pub first : IsReady book s.ranks height w
    first = k.ready w (Contains-here w todo)

    -- the node of the rule is a node
    pub node-less : w.node < length book
    node-less = by (less-or-not w.node (length book))
      where
        none : (b : List (List (Rule ℕ))) (i : ℕ) → length b ≤ i → rules_at b i ≡ []
        none [] i l = refl
        none (rs ∷ b) zero l = absurd (omega arith)
        none (rs ∷ b) (suc i) l = none b i (omega arith)

        by : (w.node < length book) ⊎ (length book ≤ w.node) → w.node < length book
        by (inl l) = l
        by (inr l) = absurd (let e : slice_get [] w.rule ≡ Some first.stands.rule = subst (λ rs. slice_get rs w.rule ≡ Some first.stands.rule) (none book w.node l) first.stands.there in cc)

    -- a rank that isn't known yet is small
    pub rank-small : (x : ℕ) → slice_get s.ranks x ≡ Some None → height + 1 < 2 ^ 32
    rank-small x e = omega (arith, k.deep, k.passed, k.counted, k.sized, k.few, count-less s.ranks x e)

    same-rule : (r : Rule ℕ) → slice_get (rules_at book w.node) w.rule ≡ Some r → r ≡ first.stands.rule
    same-rule r e = let f = first.stands.there in cc

    -- what the rule gives its node is no less than a rank that is no more than one more than the height
    settled-by : (t : ℕ) (ranks : List (Option ℕ)) → t ≤ height + 1 → ((h : ℕ) → AllKnown ranks h (arguments_of_rule first.stands.rule) → height ≤ h) → (r : Rule ℕ) → r ≡ first.stands.rule → (h : ℕ) → AllKnown ranks h (arguments_of_rule r) → t ≤ suc h
    settled-by t ranks l f r e h u = let m = f h (subst (λ q. AllKnown ranks h (arguments_of_rule q)) e u) in omega arith

    -- the rank of the rule's node is known already
    pub kept-known : (t : ℕ) → slice_get s.ranks w.node ≡ Some (Some t) → IsKept book done height todo s
    kept-known t at = record {
      few = k.few;
      sized = k.sized;
      queues = k.queues;
      counted = k.counted;
      passed = k.passed;
      deep = k.deep;
      listed = k.listed;
      placed = k.placed;
      rising = k.rising;
      low = k.low;
      high = k.high;
      top = k.top;
      sound = k.sound;
      waiting = k.waiting;
      ready = λ v m. k.ready v (Contains-later v w todo m);
      covered = λ i j r e. by i j r e (k.covered i j r e);
    }
      where
        first_one : (i j : ℕ) (r : Rule ℕ) → slice_get (rules_at book i) j ≡ Some r → (v : Waiting) → v.node ≡ i → v.rule ≡ j → v ≡ w → IsCovered book done todo s i j r
        first_one i j r e v p q m =
            let node : w.node ≡ i = ap (λ (x : Waiting). x.node) (sym m) ∙ p in
            let rule : w.rule ≡ j = ap (λ (x : Waiting). x.rule) (sym m) ∙ q in
            settled t (subst (λ x. slice_get s.ranks x ≡ Some (Some t)) node at) (settled-by t s.ranks (k.top w.node t at) first.high r (same-rule r (subst (λ x. slice_get (rules_at book x) w.rule ≡ Some r) (sym node) (subst (λ x. slice_get (rules_at book i) x ≡ Some r) (sym rule) e))))

        by : (i j : ℕ) (r : Rule ℕ) → slice_get (rules_at book i) j ≡ Some r → IsCovered book done (w ∷ todo) s i j r → IsCovered book done todo s i j r
        by i j r e (settled u f g) = settled u f g
        by i j r e (waits n v p q m f) = waits n v p q m f
        by i j r e (pending v p q there) = elim (Contains-cases w todo v there) [ inl m ↦ first_one i j r e v p q m | inr m ↦ pending v p q m ]

    abbrev z : ℕ
    z = w.node

    abbrev rank : ℕ
    rank = height + 1

    abbrev after : List (Option ℕ)
    after = set s.ranks w.node (Some (height + 1))

    -- the rule gives its node a rank
    pub kept-rank-new : slice_get s.ranks w.node ≡ Some None → AllKnown s.ranks height (arguments_of_rule first.stands.rule) → IsKept book done height todo (with_rank s w.node (height + 1))
    kept-rank-new at all = record {
      few = k.few;
      sized = length-set s.ranks z (Some rank) ∙ k.sized;
      queues = k.queues;
      counted = count-more s.ranks z rank at ∙ (let c = k.counted in omega (arith, length-append s.known (z ∷ [])));
      passed = omega (arith, k.passed, length-append s.known (z ∷ []));
      deep = k.deep;
      listed = λ p x e. listed_by p x (push-cases s.known z p x e);
      placed = λ x r e. elim (set-cases s.ranks z rank x r e) [ inl u ↦ Contains-append_right s.known (z ∷ []) x (Contains-head x z [] u.0) | inr u ↦ Contains-append_left s.known (z ∷ []) x (k.placed x r u.1) ];
      rising = λ p q x y r t l ex ey er et. rising_by p q x y r t l (push-cases s.known z p x ex) (push-cases s.known z q y ey) (set-cases s.ranks z rank x r er) (set-cases s.ranks z rank y t et);
      low = λ p x r l ex er. elim (push-cases s.known z p x ex) [ inl f ↦ elim (set-cases s.ranks z rank x r er) [ inl u ↦ absurd (unlisted p x f u.0) | inr u ↦ k.low p x r l f u.1 ] | inr f ↦ (let g = f.0 in let m = k.passed in absurd (omega arith)) ];
      high = λ p x r l ex er. elim (set-cases s.ranks z rank x r er) [ inl u ↦ (let g = u.1 in omega arith) | inr u ↦ elim (push-cases s.known z p x ex) [ inl f ↦ k.high p x r l f u.1 | inr f ↦ absurd (u.0 f.1) ] ];
      top = λ x r e. elim (set-cases s.ranks z rank x r e) [ inl u ↦ (let g = u.1 in omega arith) | inr u ↦ k.top x r u.1 ];
      sound = λ x r e. elim (set-cases s.ranks z rank x r e) [ inl u ↦ sound_at x r u.0 u.1 | inr u ↦ k.sound x r u.1 ];
      waiting = λ n v m. let u = k.waiting n v m in record { stands = stands_on v u.stands; argument = u.argument };
      ready = λ v m. ready_by v (k.ready v (Contains-later v w todo m));
      covered = λ i j r e. by i j r e (k.covered i j r e);
    }
      where
        -- the node is not listed yet
        unlisted : (p x : ℕ) → slice_get s.known p ≡ Some x → x ≡ z → ⊥
        unlisted p x e f = let u = k.listed p x e in unranked-other s.ranks z x u.0 at u.1 f

        ranked : slice_get after z ≡ Some (Some rank)
        ranked = get-set-same s.ranks z (Some rank) (slice_get_within s.ranks z None at)

        listed_by : (p x : ℕ) → (slice_get s.known p ≡ Some x) ⊎ ((p ≡ length s.known) × (x ≡ z)) → IsKnown after (p + 1) x
        listed_by p x (inl e) = known-keep s.ranks z rank (p + 1) x at (k.listed p x e)
        listed_by p x (inr u) = (rank, subst (λ y. slice_get after y ≡ Some (Some rank)) (sym u.1) ranked, (let a = u.0 in let b = k.deep in let c = k.passed in omega arith))

        rising_by : (p q x y r t : ℕ) → p ≤ q → (slice_get s.known p ≡ Some x) ⊎ ((p ≡ length s.known) × (x ≡ z)) → (slice_get s.known q ≡ Some y) ⊎ ((q ≡ length s.known) × (y ≡ z))
            → ((x ≡ z) × (r ≡ rank)) ⊎ ((x ≢ z) × (slice_get s.ranks x ≡ Some (Some r))) → ((y ≡ z) × (t ≡ rank)) ⊎ ((y ≢ z) × (slice_get s.ranks y ≡ Some (Some t))) → r ≤ t
        rising_by p q x y r t l ex ey (inl u) (inl v) = let a = u.1 in let b = v.1 in omega arith
        rising_by p q x y r t l ex ey (inr u) (inl v) = let a = v.1 in let b = k.top x r u.1 in omega arith
        rising_by p q x y r t l (inl ex) ey (inl u) (inr v) = absurd (unlisted p x ex u.0)
        rising_by p q x y r t l (inr ex) (inl ey) (inl u) (inr v) = let a = ex.0 in let b = slice_get_within s.known q y ey in absurd (omega arith)
        rising_by p q x y r t l (inr ex) (inr ey) (inl u) (inr v) = absurd (v.0 ey.1)
        rising_by p q x y r t l (inl ex) (inl ey) (inr u) (inr v) = k.rising p q x y r t l ex ey u.1 v.1
        rising_by p q x y r t l (inr ex) ey (inr u) (inr v) = absurd (u.0 ex.1)
        rising_by p q x y r t l (inl ex) (inr ey) (inr u) (inr v) = absurd (v.0 ey.1)

        sound_at : (x r : ℕ) → x ≡ z → r ≡ rank → Tree r x
        sound_at x r e f =
            let tree = rule-tree s.ranks height z first.stands.rule k.sound (Contains-at (rules_at book z) w.rule first.stands.rule first.stands.there) all in
            subst (λ y. Tree r y) (sym e) (subst (λ y. Tree y z) (let g : suc height ≡ r = omega arith in g) tree)

        stands_on : (v : Waiting) → Stands book s.ranks height v → Stands book after height v
        stands_on v u = record { rule = u.rule; there = u.there; before = all-keep s.ranks z rank height (take v.argument (arguments_of_rule u.rule)) at u.before }

        -- within a height no greater than this one nothing new is known
        high-on : (ns : List ℕ) → ((h : ℕ) → AllKnown s.ranks h ns → height ≤ h) → (h : ℕ) → AllKnown after h ns → height ≤ h
        high-on ns f h u = elim (less-or-not h height) [ inl l ↦ f h (all-back s.ranks z rank h ns (omega arith) u) | inr l ↦ l ]

        ready_by : (v : Waiting) → IsReady book s.ranks height v → IsReady book after height v
        ready_by v u = record { stands = stands_on v u.stands; within = u.within; high = high-on (arguments_of_rule u.stands.rule) u.high }

        still : (t : ℕ) (ns : List ℕ) → t ≤ rank → ((h : ℕ) → AllKnown s.ranks h ns → t ≤ suc h) → (h : ℕ) → AllKnown after h ns → t ≤ suc h
        still t ns l f h u = elim (less-or-not h rank) [ inl m ↦ f h (all-back s.ranks z rank h ns m u) | inr m ↦ omega arith ]

        first_one : (i j : ℕ) (r : Rule ℕ) → slice_get (rules_at book i) j ≡ Some r → (v : Waiting) → v.node ≡ i → v.rule ≡ j → v ≡ w → IsCovered book done todo (with_rank s z rank) i j r
        first_one i j r e v p q m =
            let node : w.node ≡ i = ap (λ (x : Waiting). x.node) (sym m) ∙ p in
            let rule : w.rule ≡ j = ap (λ (x : Waiting). x.rule) (sym m) ∙ q in
            settled rank (subst (λ x. slice_get after x ≡ Some (Some rank)) node ranked) (settled-by rank after (omega arith) (high-on (arguments_of_rule first.stands.rule) first.high) r (same-rule r (subst (λ x. slice_get (rules_at book x) w.rule ≡ Some r) (sym node) (subst (λ x. slice_get (rules_at book i) x ≡ Some r) (sym rule) e))))

        by : (i j : ℕ) (r : Rule ℕ) → slice_get (rules_at book i) j ≡ Some r → IsCovered book done (w ∷ todo) s i j r → IsCovered book done todo (with_rank s z rank) i j r
        by i j r e (settled t f g) = settled t (kept-rank s.ranks z rank i t at f) (still t (arguments_of_rule r) (k.top i t f) g)
        by i j r e (waits n v p q m f) = waits n v p q m (λ a l b. elim (push-cases s.known z a n b) [ inl c ↦ f a l c | inr c ↦ (let g = c.0 in let d = k.passed in absurd (omega arith)) ])
        by i j r e (pending v p q there) = elim (Contains-cases w todo v there) [ inl m ↦ first_one i j r e v p q m | inr m ↦ pending v p q m ]

    abbrev now : ℕ → Waiting → List Waiting
    now a v = v ∷ waits_at s a

    -- the rule waits for an argument that isn't known
    pub kept-waiting : (p a : ℕ) (v : Waiting) → v.node ≡ w.node → v.rule ≡ w.rule → v.argument ≡ p → slice_get (arguments_of_rule first.stands.rule) p ≡ Some a → AllKnown s.ranks height (take p (arguments_of_rule first.stands.rule)) → (IsKnown s.ranks height a → ⊥) → a < length s.waiting → IsKept book done height todo (with_waiting s a v)
    kept-waiting p a v same_node same_rule same_place at before unknown less = record {
      few = k.few;
      sized = k.sized;
      queues = length-set s.waiting a (v ∷ waits_at s a) ∙ k.queues;
      counted = k.counted;
      passed = k.passed;
      deep = k.deep;
      listed = k.listed;
      placed = k.placed;
      rising = k.rising;
      low = k.low;
      high = k.high;
      top = k.top;
      sound = k.sound;
      waiting = λ n u m. waiting_by n u m (equal-or-not n a);
      ready = λ u m. k.ready u (Contains-later u w todo m);
      covered = λ i j r e. by i j r e (k.covered i j r e);
    }
      where
        stands : Stands book s.ranks height v
        stands = record {
          rule = first.stands.rule;
          there = subst (λ x. slice_get (rules_at book x) v.rule ≡ Some first.stands.rule) (sym same_node) (subst (λ x. slice_get (rules_at book w.node) x ≡ Some first.stands.rule) (sym same_rule) first.stands.there);
          before = subst (λ x. AllKnown s.ranks height (take x (arguments_of_rule first.stands.rule))) (sym same_place) before;
        }

        waits_new : Waits book s.ranks height v a
        waits_new = record { stands = stands; argument = subst (λ x. slice_get (arguments_of_rule first.stands.rule) x ≡ Some a) (sym same_place) at }

        waiting_by : (n : ℕ) (u : Waiting) → Contains (get_or (set s.waiting a (now a v)) n []) u → (n ≡ a) ⊎ (n ≢ a) → Waits book s.ranks height u n
        waiting_by n u m (inr d) = k.waiting n u (subst (λ l. Contains l u) (waits-other s a n (now a v) d) m)
        waiting_by n u m (inl e) =
            let there : Contains (now a v) u = subst (λ l. Contains l u) (waits-same s a (now a v) less) (subst (λ x. Contains (get_or (set s.waiting a (now a v)) x []) u) e m) in
            subst (Waits book s.ranks height u) (sym e) (old_or_new u (Contains-cases v (waits_at s a) u there))
          where
            old_or_new : (u : Waiting) → (u ≡ v) ⊎ Contains (waits_at s a) u → Waits book s.ranks height u a
            old_or_new u (inl f) = subst (λ x. Waits book s.ranks height x a) (sym f) waits_new
            old_or_new u (inr h) = k.waiting a u h

        stays : (n : ℕ) (u : Waiting) → Contains (waits_at s n) u → (n ≡ a) ⊎ (n ≢ a) → Contains (get_or (set s.waiting a (now a v)) n []) u
        stays n u m (inr d) = subst (λ l. Contains l u) (sym (waits-other s a n (now a v) d)) m
        stays n u m (inl e) = subst (λ x. Contains (get_or (set s.waiting a (now a v)) x []) u) (sym e) (subst (λ l. Contains l u) (sym (waits-same s a (now a v) less)) (Contains-later u v (waits_at s a) (subst (λ x. Contains (waits_at s x) u) e m)))

        unpassed : (q : ℕ) → q < done → slice_get s.known q ≢ Some a
        unpassed q l e = let u = k.listed q a e in unknown (u.0, u.1, k.low q a u.0 l e u.1)

        by : (i j : ℕ) (r : Rule ℕ) → slice_get (rules_at book i) j ≡ Some r → IsCovered book done (w ∷ todo) s i j r → IsCovered book done todo (with_waiting s a v) i j r
        by i j r e (settled t f g) = settled t f g
        by i j r e (waits n u p q m f) = waits n u p q (stays n u m (equal-or-not n a)) f
        by i j r e (pending u p q there) = elim (Contains-cases w todo u there) [
          | inr m ↦ pending u p q m
          | inl m ↦ waits a v (same_node ∙ (ap (λ (x : Waiting). x.node) (sym m) ∙ p)) (same_rule ∙ (ap (λ (x : Waiting). x.rule) (sym m) ∙ q)) (subst (λ l. Contains l v) (sym (waits-same s a (now a v) less)) (Contains-here v (waits_at s a))) unpassed
        ]

  -- the next node has its turn
  pub kept-next : (done height g rank : ℕ) (s : State) → IsKept book done height [] s → slice_get s.known done ≡ Some g → slice_get s.ranks g ≡ Some (Some rank) → IsKept book (done + 1) rank (waits_at s g) (without_waiting s g)
  kept-next done height g rank s k at ranked = record {
    few = k.few;
    sized = k.sized;
    queues = length-set s.waiting g [] ∙ k.queues;
    counted = k.counted;
    passed = (let l = slice_get_within s.known done g at in omega arith);
    deep = (let u = k.listed done g at in let e : u.0 ≡ rank = same u.0 u.1 in let l = u.2 in omega arith);
    listed = k.listed;
    placed = k.placed;
    rising = k.rising;
    low = λ p x r l e f. k.rising p done x g r rank (omega arith) e at f ranked;
    high = λ p x r l e f. k.rising done p g x rank r (omega arith) at e ranked f;
    top = λ x r e. let l = k.top x r e in let m = rises in omega arith;
    sound = k.sound;
    waiting = λ n v m. waiting_by n v m (equal-or-not n g);
    ready = λ v m. ready_by v (k.waiting g v m);
    covered = λ i j r e. by i j r (k.covered i j r e);
  }
    where
      same : (t : ℕ) → slice_get s.ranks g ≡ Some (Some t) → t ≡ rank
      same t e = let f = ranked in cc

      rises : height ≤ rank
      rises = k.high done g rank (omega arith) at ranked

      less : g < length s.waiting
      less = omega (arith, slice_get_within s.ranks g (Some rank) ranked, k.sized, k.queues)

      stands_on : (v : Waiting) → Stands book s.ranks height v → Stands book s.ranks rank v
      stands_on v u = record { rule = u.rule; there = u.there; before = all-more s.ranks height rank (take v.argument (arguments_of_rule u.rule)) rises u.before }

      waiting_by : (n : ℕ) (v : Waiting) → Contains (get_or (set s.waiting g []) n []) v → (n ≡ g) ⊎ (n ≢ g) → Waits book s.ranks rank v n
      waiting_by n v m (inl e) = absurd (Contains-nil v (subst (λ l. Contains l v) (waits-same s g [] less) (subst (λ x. Contains (get_or (set s.waiting g []) x []) v) e m)))
      waiting_by n v m (inr d) = let u = k.waiting n v (subst (λ l. Contains l v) (waits-other s g n [] d) m) in record { stands = stands_on v u.stands; argument = u.argument }

      ready_by : (v : Waiting) → Waits book s.ranks height v g → IsReady book s.ranks rank v
      ready_by v u = record {
        stands = stands_on v u.stands;
        within = (let l = slice_get_within (arguments_of_rule u.stands.rule) v.argument g u.argument in omega arith);
        high = λ h all. let q = one-known s.ranks h v.argument g (arguments_of_rule u.stands.rule) u.argument all in let e : q.0 ≡ rank = same q.0 q.1 in let l = q.2 in omega arith;
      }

      turn : (p n : ℕ) → n ≢ g → ((q : ℕ) → q < done → slice_get s.known q ≢ Some n) → p < done + 1 → slice_get s.known p ≢ Some n
      turn p n d f l e = elim (equal-or-not p done) [ inl same_place ↦ (let a : slice_get s.known done ≡ Some n = subst (λ x. slice_get s.known x ≡ Some n) same_place e in d (let b : n ≡ g = cc in b)) | inr other ↦ f p (omega arith) e ]

      by : (i j : ℕ) (r : Rule ℕ) → IsCovered book done [] s i j r → IsCovered book (done + 1) (waits_at s g) (without_waiting s g) i j r
      by i j r (settled t f h) = settled t f h
      by i j r (pending v p q m) = absurd (Contains-nil v m)
      by i j r (waits n v p q m f) = elim (equal-or-not n g) [
        | inl e ↦ pending v p q (subst (λ x. Contains (waits_at s x) v) e m)
        | inr d ↦ waits n v p q (subst (λ l. Contains l v) (sym (waits-other s g n [] d)) m) (λ a l. turn a n d f l)
      ]

  no-waits : (n i : ℕ) (w : Waiting) → Contains (get_or (replicate n []) i []) w → ⊥
  no-waits zero i w h = Contains-nil w h
  no-waits (suc n) zero w h = Contains-nil w h
  no-waits (suc n) (suc i) w h = no-waits n i w h

  count-none : (n : ℕ) → known_count (replicate n None) ≡ 0
  count-none zero = refl
  count-none (suc n) = count-none n

  pub node-waits-have : (i j k : ℕ) (rs : List (Rule ℕ)) (r : Rule ℕ) → slice_get rs k ≡ Some r → Contains (node_waits i j rs) (wait i (j + k))
  node-waits-have i j k [] r e = cc
  node-waits-have i j zero (q ∷ rs) r e = Contains-head (wait i (j + 0)) (wait i j) (node_waits i (suc j) rs) (ap (wait i) (omega arith))
  node-waits-have i j (suc k) (q ∷ rs) r e =
      Contains-later (wait i (j + suc k)) (wait i j) (node_waits i (suc j) rs) (subst (λ n. Contains (node_waits i (suc j) rs) (wait i n)) (omega arith) (node-waits-have i (suc j) k rs r e))

  all-waits-have : (i k j : ℕ) (b : List (List (Rule ℕ))) (r : Rule ℕ) → slice_get (rules_at b k) j ≡ Some r → Contains (all_waits i b) (wait (i + k) j)
  all-waits-have i k j [] r e = cc
  all-waits-have i zero j (rs ∷ b) r e = Contains-append_left (node_waits i 0 rs) (all_waits (suc i) b) (wait (i + 0) j) (subst (λ n. Contains (node_waits i 0 rs) n) (λ t. wait (same t) (zeros t)) (node-waits-have i 0 j rs r e))
    where
      same : i ≡ i + 0
      same = omega arith

      zeros : 0 + j ≡ j
      zeros = omega arith
  all-waits-have i (suc k) j (rs ∷ b) r e = Contains-append_right (node_waits i 0 rs) (all_waits (suc i) b) (wait (i + suc k) j) (subst (λ n. Contains (all_waits (suc i) b) (wait n j)) (omega arith) (all-waits-have (suc i) k j b r e))

  -- what is to go on at the beginning is a rule
  node-waits-stand : (i j : ℕ) (rs : List (Rule ℕ)) (w : Waiting) → Contains (node_waits i j rs) w → (k : ℕ) × (r : Rule ℕ) × (slice_get rs k ≡ Some r) × (w ≡ wait i (j + k))
  node-waits-stand i j [] w h = absurd (Contains-nil w h)
  node-waits-stand i j (r ∷ rs) w h = elim (Contains-cases (wait i j) (node_waits i (suc j) rs) w h) [
    | inl e ↦ (zero, r, refl, e ∙ ap (wait i) (omega arith))
    | inr m ↦ (let u = node-waits-stand i (suc j) rs w m in (suc u.0, u.1, u.2, u.3 ∙ ap (wait i) (omega arith)))
  ]

  all-waits-stand : (i : ℕ) (b : List (List (Rule ℕ))) (w : Waiting) → Contains (all_waits i b) w → (k : ℕ) × (j : ℕ) × (r : Rule ℕ) × (slice_get (rules_at b k) j ≡ Some r) × (w ≡ wait (i + k) j)
  all-waits-stand i [] w h = absurd (Contains-nil w h)
  all-waits-stand i (rs ∷ b) w h = elim (Contains-append_cases (node_waits i 0 rs) (all_waits (suc i) b) w h) [
    | inl l ↦ (let u = node-waits-stand i 0 rs w l in (zero, u.0, u.1, u.2, u.3 ∙ (λ t. wait (same t) (zeros u.0 t))))
    | inr m ↦ (let u = all-waits-stand (suc i) b w m in (suc u.0, u.1, u.2, u.3, u.4 ∙ ap (λ n. wait n u.1) (omega arith)))
  ]
    where
      same : i ≡ i + 0
      same = omega arith

      zeros : (k : ℕ) → 0 + k ≡ k
      zeros k = omega arith

  -- at the beginning nothing is known
  pub kept-begun : length book < 2 ^ 32 → IsKept book 0 0 (all_waits 0 book) (begun (length book))
  kept-begun few = record {
    few = few;
    sized = length-replicate (length book) None;
    queues = length-replicate (length book) [];
    counted = count-none (length book);
    passed = omega arith;
    deep = omega arith;
    listed = λ p x e. cc;
    placed = λ x r e. absurd (unranked x r e);
    rising = λ p q x y r t l ex ey er et. absurd (unranked x r er);
    low = λ p x r l e f. absurd (unranked x r f);
    high = λ p x r l e f. absurd (unranked x r f);
    top = λ x r e. absurd (unranked x r e);
    sound = λ x r e. absurd (unranked x r e);
    waiting = λ n w h. absurd (no-waits (length book) n w h);
    ready = λ w h. ready_by w (all-waits-stand 0 book w h);
    covered = λ i j r e. pending (wait i j) refl refl (subst (λ n. Contains (all_waits 0 book) (wait n j)) (let z : 0 + i ≡ i = omega arith in z) (all-waits-have 0 i j book r e));
  }
    where
      unranked : (x r : ℕ) → slice_get (replicate (length book) None) x ≡ Some (Some r) → ⊥
      unranked x r e = let f : Some r ≡ None = none-at (length book) x None (Some r) e in cc

      ready_by : (w : Waiting) → (k : ℕ) × (j : ℕ) × (r : Rule ℕ) × (slice_get (rules_at book k) j ≡ Some r) × (w ≡ wait (0 + k) j) → IsReady book (replicate (length book) None) 0 w
      ready_by w u = subst (IsReady book (replicate (length book) None) 0) (sym u.4) (record {
        stands = record { rule = u.2; there = subst (λ n. slice_get (rules_at book n) u.1 ≡ Some u.2) (let z : u.0 ≡ 0 + u.0 = omega arith in z) u.3; before = tt };
        within = omega arith;
        high = λ h all. omega arith;
      })

  -- the waits of a node, one after the other
  pub node-waits-next : (i j : ℕ) (rs : List (Rule ℕ)) (todo : List Waiting) → j < length rs → node_waits i j (drop j rs) ++ todo ≡ wait i j ∷ (node_waits i (j + 1) (drop (j + 1) rs) ++ todo)
  node-waits-next i j rs todo l = rw add-one (let u = get-some rs j l in ap (λ d. node_waits i j d ++ todo) (drop-cons rs j u.0 l))

  pub node-waits-end : (i j : ℕ) (rs : List (Rule ℕ)) (todo : List Waiting) → length rs ≤ j → node_waits i j (drop j rs) ++ todo ≡ todo
  node-waits-end i j rs todo l = ap (λ d. node_waits i j d ++ todo) (none j rs l)
    where
      none : (j : ℕ) (rs : List (Rule ℕ)) → length rs ≤ j → drop j rs ≡ []
      none zero [] l = refl
      none (suc j) [] l = refl
      none zero (r ∷ rs) l = absurd (omega arith)
      none (suc j) (r ∷ rs) l = none j rs (omega arith)

  pub all-waits-next : (i : ℕ) (b : List (List (Rule ℕ))) → i < length b → all_waits i (drop i b) ≡ node_waits i 0 (rules_at b i) ++ all_waits (i + 1) (drop (i + 1) b)
  all-waits-next i b l = rw add-one (ap (all_waits i) (drop-cons b i [] l))

  pub all-waits-end : (i : ℕ) (b : List (List (Rule ℕ))) → length b ≤ i → all_waits i (drop i b) ≡ []
  all-waits-end i b l = ap (all_waits i) (none i b l)
    where
      none : (j : ℕ) (rs : List (List (Rule ℕ))) → length rs ≤ j → drop j rs ≡ []
      none zero [] l = refl
      none (suc j) [] l = refl
      none zero (r ∷ rs) l = absurd (omega arith)
      none (suc j) (r ∷ rs) l = none j rs (omega arith)

  pub known-within : (done height : ℕ) (todo : List Waiting) (s : State) → IsKept book done height todo s → length s.known ≤ length book
  known-within done height todo s k = omega (arith, k.counted, k.sized, count-within s.ranks)

  pub past-known : (ks : List ℕ) (p : ℕ) → slice_get ks p ≡ None → length ks ≤ p
  past-known [] p e = omega arith
  past-known (x ∷ ks) zero e = cc
  past-known (x ∷ ks) (suc p) e = (let h = past-known ks p e in omega arith)

  -- where each known node had its turn, what has a tree is known
  module _ (done height : ℕ) (s : State) (k : IsKept book done height [] s) (over : length s.known ≤ done) where
    rule-known : (h i : ℕ) (r : Rule ℕ) → NodeRule book i r → AllKnown s.ranks h (arguments_of_rule r) → IsKnown s.ranks (suc h) i
    rule-known h i r c all = let u = Contains-place (rules_at book i) r c in by u.0 u.1 (k.covered i u.0 r u.1)
      where
        by : (j : ℕ) → slice_get (rules_at book i) j ≡ Some r → IsCovered book done [] s i j r → IsKnown s.ranks (suc h) i
        by j e (settled t f g) = (t, f, g h all)
        by j e (pending w p q m) = absurd (Contains-nil w m)
        by j e (waits n w p q m f) =
            let v = k.waiting n w m in
            let there : slice_get (rules_at book i) j ≡ Some v.stands.rule = subst (λ x. slice_get (rules_at book x) j ≡ Some v.stands.rule) p (subst (λ x. slice_get (rules_at book w.node) x ≡ Some v.stands.rule) q v.stands.there) in
            let rule : r ≡ v.stands.rule = cc in
            let known = one-known s.ranks h w.argument n (arguments_of_rule v.stands.rule) v.argument (subst (λ x. AllKnown s.ranks h (arguments_of_rule x)) rule all) in
            let place = Contains-place s.known n (k.placed n known.0 known.1) in
            absurd (f place.0 (let l = slice_get_within s.known place.0 n place.1 in omega arith) place.1)

    mutual
      tree-known : {h i : ℕ} → Tree h i → IsKnown s.ranks h i
      tree-known (head_tree {h = h} {i = i} {x = x} {ns = ns} c ts) = rule-known h i (Head x ns) c (trees-known ts)
      tree-known (any_tree {h = h} {i = i} {l = l} {m = m} c t u) = rule-known h i (Any l m) c (tree-known t, (tree-known u, tt))

      trees-known : {h : ℕ} {ns : List ℕ} → HaveTrees ℕ (NodeRule book) h ns → AllKnown s.ranks h ns
      trees-known no_trees = tt
      trees-known (more_trees t ts) = (tree-known t, trees-known ts)

    -- At the end the ranks are right.
    pub kept-ranks : AreRanks book s.ranks
    kept-ranks = record { count = k.sized; each = λ i rank e. by i rank e }
      where
        by : (i : ℕ) (rank : Option ℕ) → slice_get s.ranks i ≡ Some rank → IsRankIn book i rank
        by i None e = λ p. let u = tree-known p.1 in let f = u.1 in cc
        by i (Some r) e = record {
          tree = k.sound i r e;
          none_less = λ h l t. let u = tree-known t in let f = u.1 in let same : u.0 ≡ r = cc in let m = u.2 in omega arith;
        }
