-- How a rule goes on, as the code does it.
use Rattle.std.proofs.Common.{◌≡◌, ℕ, ◌+◌, ◌<◌, ◌≤◌, List, ◌∷◌, ◌++◌, Option, None, Some, length, take, slice_get, sym, ap, subst, ◌∙◌, Bool, true, false, inl, inr, arith}
use Rattle.std.specs.Prelude.{is_some, Contains}
use Rattle.std.proofs.lemmas.Option.{slice_get_within}
use Rattle.std.proofs.lemmas.List.Elements.{Contains-append_left}
use Rattle.cls_base.specs.declared.rule.Rule.{Rule}
use Rattle.cls_base.specs.Languages.{rules_at}
use Rattle.cls_base.specs.Lists.{AreBelow}
use Rattle.cls_base.proofs.Lists.{Contains-cases, Contains-later}
use Rattle.cls_core.proofs.Columns.{get-some}
use Rattle.cls_base.specs.Arguments.{arguments_of_rule}
use Rattle.cls_grammar.specs.declared.waiting.Waiting.{Waiting}
use Rattle.cls_grammar.specs.Climbs.{State, with_rank, with_waiting, IsKnown, AllKnown, IsReady, IsCovered, settled, waits, pending, wait, node_waits, IsKept}
use Rattle.cls_grammar.proofs.Climbing.{first, node-waits-have, arguments-within, argument-within, kept-known, kept-rank-new, kept-waiting}
use Rattle.cls_base.specs.Books.{HaveNodesBelow}

rule-equal : (rs all : List (Rule ℕ)) (j : ℕ) (q r : Rule ℕ) → rs ≡ all → slice_get rs j ≡ Some q → slice_get all j ≡ Some r → q ≡ r
rule-equal rs all j q r e f g = let h = subst (λ l. slice_get l j ≡ Some q) e f in cc

-- whether the rank of a node is known
pub rank-there : (ranks : List (Option ℕ)) (node : ℕ) (o : Option ℕ) (b : Bool) → slice_get ranks node ≡ Some o → b ≡ is_some o → (b ≡ true → (x : ℕ) × (slice_get ranks node ≡ Some (Some x))) × (((x : ℕ) × (slice_get ranks node ≡ Some (Some x))) → b ≡ true)
rank-there ranks node (Some x) b e f = ((λ t. (x, e)), (λ u. f))
rank-there ranks node None b e f = ((λ t. absurd (let h : false ≡ true = sym f ∙ t in cc)), (λ u. absurd (let h : ◌≡◌ {A = Option (Option ℕ)} (Some None) (Some (Some u.0)) = sym e ∙ u.1 in cc)))

module _ (book : List (List (Rule ℕ))) (done height : ℕ) (w : Waiting) (todo : List Waiting) (s : State) (k : IsKept book done height (w ∷ todo) s) where
  abbrev ready : IsReady book s.ranks height w
  ready = first book done height w todo s k

  pub rule-less : (rs : List (Rule ℕ)) → rs ≡ rules_at book w.node → w.rule < length rs
  rule-less rs e = omega (arith, slice_get_within (rules_at book w.node) w.rule ready.stands.rule ready.stands.there, ap length e)

  module _ (rs : List (Rule ℕ)) (q : Rule ℕ) (e : rs ≡ rules_at book w.node) (at : slice_get rs w.rule ≡ Some q) where
    same : q ≡ ready.stands.rule
    same = rule-equal rs (rules_at book w.node) w.rule q ready.stands.rule e at ready.stands.there

    pub next-nodes : HaveNodesBelow (length book) (rules_at book w.node) → AreBelow (length s.ranks) (arguments_of_rule q)
    next-nodes h = let P : ℕ → Rule ℕ → Type 0 = λ n r. AreBelow n (arguments_of_rule r) in subst (λ r. P (length s.ranks) r) (sym same) (subst (λ n. P n ready.stands.rule) (sym k.sized) (arguments-within book ready.stands.rule w.node w.rule h ready.stands.there))

    pub next-within : w.argument ≤ length (arguments_of_rule q)
    next-within = let P : Rule ℕ → Type 0 = λ r. w.argument ≤ length (arguments_of_rule r) in subst P (sym same) ready.within

    pub next-front : AllKnown s.ranks height (take w.argument (arguments_of_rule q))
    next-front = let P : Rule ℕ → Type 0 = λ r. AllKnown s.ranks height (take w.argument (arguments_of_rule r)) in subst P (sym same) ready.stands.before

    pub argument-less : (p a : ℕ) → HaveNodesBelow (length book) (rules_at book w.node) → slice_get (arguments_of_rule q) p ≡ Some a → a < length s.waiting
    argument-less p a h f =
        let P : Rule ℕ → Type 0 = λ r. slice_get (arguments_of_rule r) p ≡ Some a in
        let l = argument-within book ready.stands.rule w.node w.rule p a h ready.stands.there (subst P same f) in
        omega (arith, k.queues)

    pub kept-reached : AllKnown s.ranks height (arguments_of_rule q) → w.node < length s.ranks → (t : State) → ((r : ℕ) → slice_get s.ranks w.node ≡ Some (Some r) → t ≡ s) → (slice_get s.ranks w.node ≡ Some None → t ≡ with_rank s w.node (height + 1)) → IsKept book done height todo t
    kept-reached all less t known new = let u = get-some s.ranks w.node less in by u.0 u.1
      where
        by : (o : Option ℕ) → slice_get s.ranks w.node ≡ Some o → IsKept book done height todo t
        by (Some r) at = subst (IsKept book done height todo) (sym (known r at)) (kept-known book done height w todo s k r at)
        by None at =
            let P : Rule ℕ → Type 0 = λ r. AllKnown s.ranks height (arguments_of_rule r) in
            subst (IsKept book done height todo) (sym (new at)) (kept-rank-new book done height w todo s k at (subst P same all))

    pub kept-waits : (p a : ℕ) (v : Waiting) → v.node ≡ w.node → v.rule ≡ w.rule → v.argument ≡ p → slice_get (arguments_of_rule q) p ≡ Some a → AllKnown s.ranks height (take p (arguments_of_rule q)) → (IsKnown s.ranks height a → ⊥) → a < length s.waiting → (t : State) → t ≡ with_waiting s a v → IsKept book done height todo t
    kept-waits p a v en er ep f before unknown less t e =
        let P : Rule ℕ → Type 0 = λ r. slice_get (arguments_of_rule r) p ≡ Some a in
        let Q : Rule ℕ → Type 0 = λ r. AllKnown s.ranks height (take p (arguments_of_rule r)) in
        subst (IsKept book done height todo) (sym e) (kept-waiting book done height w todo s k p a v en er ep (subst P same f) (subst Q same before) unknown less)

-- A rule that is to go on may go on first, and once more in its turn.
pub kept-again : (book : List (List (Rule ℕ))) (done height : ℕ) (w : Waiting) (todo : List Waiting) (s : State) → Contains todo w → IsKept book done height todo s → IsKept book done height (w ∷ todo) s
kept-again book done height w todo s c k = record {
  few = k.few;
  sized = k.sized;
  queues = k.queues;
  counted = k.counted;
  passed = k.passed;
  deep = k.deep;
  listed = k.listed;
  placed = k.placed;
  rising = k.rising;
  low = k.low;
  high = k.high;
  top = k.top;
  sound = k.sound;
  waiting = k.waiting;
  ready = λ v m. elim (Contains-cases w todo v m) [ inl e ↦ subst (IsReady book s.ranks height) (sym e) (k.ready w c) | inr n ↦ k.ready v n ];
  covered = λ i j r e. by i j r (k.covered i j r e);
}
  where
    by : (i j : ℕ) (r : Rule ℕ) → IsCovered book done todo s i j r → IsCovered book done (w ∷ todo) s i j r
    by i j r (settled u f g) = settled u f g
    by i j r (waits n v p q m f) = waits n v p q m f
    by i j r (pending v p q m) = pending v p q (Contains-later v w todo m)

-- So one of a node's rules may begin before the others.
pub kept-ahead : (book : List (List (Rule ℕ))) (node rule : ℕ) (todo : List Waiting) (s : State) → rule < length (rules_at book node) → IsKept book 0 0 (node_waits node 0 (rules_at book node) ++ todo) s → IsKept book 0 0 (wait node rule ∷ (node_waits node 0 (rules_at book node) ++ todo)) s
kept-ahead book node rule todo s l k =
    let rs = rules_at book node in
    let u = get-some rs rule l in
    let zeros : 0 + rule ≡ rule = omega arith in
    kept-again book 0 0 (wait node rule) (node_waits node 0 rs ++ todo) s (Contains-append_left (node_waits node 0 rs) todo (wait node rule) (subst (λ n. Contains (node_waits node 0 rs) (wait node n)) zeros (node-waits-have book node 0 rule rs u.0 u.1))) k
