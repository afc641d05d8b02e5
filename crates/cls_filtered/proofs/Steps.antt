-- The stepwise book: each of its rules is a step, and each node of the book generates by it what it generates by the book.
use Rattle.std.proofs.Common.{◌≡◌, ℕ, zero, suc, ◌+◌, ◌<◌, ◌≤◌, ◌↔◌, List, [], ◌∷◌, ◌++◌, length, refl, sym, ap, subst, ◌∙◌, inl, inr, arith, length-append}
use Rattle.std.specs.Prelude.{Contains}
use Rattle.std.proofs.lemmas.List.{get_or_append_left}
use Rattle.std.proofs.lemmas.List.Elements.{Contains-append_cases}
use Rattle.cls_base.specs.Terms.{Applicative, component, apply}
use Rattle.cls_base.specs.declared.rule.Rule.{Rule}
use Rattle.cls_base.specs.declared.rule.Rule.TheVariants.{Head, Any}
use Rattle.cls_base.specs.Arguments.{arguments_of_rule}
use Rattle.cls_base.specs.Books.{HasNodesBelow, HaveNodesBelow}
use Rattle.cls_base.specs.Lists.{AreBelow}
use Rattle.cls_base.specs.Languages.{Generates, NodeRule, rules_at, IsGenerated}
use Rattle.cls_base.proofs.Lists.{Contains-nil, Contains-here, Contains-later, Contains-cases}
use Rattle.cls_filtered.specs.Filtered.{IsRuleBook}
use Rattle.cls_filtered.specs.Stepwise.{parts_from, last_from, parts_of, last_of, part_count, parts_in, lasts_in, parts_count, all_parts, all_lasts, stepwise, IsStep, AreSteps}
use Rattle.cls_filtered.proofs.Equations.{AppliedTo, MadeBy, unmade, remade, language}

-- how many parts there are
parts_from-length : (r : Rule ℕ) (k : ℕ) (ns : List ℕ) → length (parts_from r k ns) ≡ length ns
parts_from-length r k [] = refl
parts_from-length r k (n ∷ ns) = ap suc (parts_from-length (Any k n) (suc k) ns)

pub parts_of-length : (k : ℕ) (r : Rule ℕ) → length (parts_of k r) ≡ part_count r
parts_of-length k (Head x ns) = parts_from-length (Head x []) k ns
parts_of-length k (Any l m) = refl

pub parts_in-length : (k : ℕ) (rs : List (Rule ℕ)) → length (parts_in k rs) ≡ parts_count rs
parts_in-length k [] = refl
parts_in-length k (r ∷ rs) =
    omega (arith, length-append (parts_of k r) (parts_in (k + part_count r) rs), parts_of-length k r, parts_in-length (k + part_count r) rs)

pub all_lasts-length : (k : ℕ) (book : List (List (Rule ℕ))) → length (all_lasts k book) ≡ length book
all_lasts-length k [] = refl
all_lasts-length k (rs ∷ book) = ap suc (all_lasts-length (k + parts_count rs) book)

pub stepwise-length : (book : List (List (Rule ℕ))) → length book ≤ length (stepwise book)
stepwise-length book =
    omega (arith, length-append (all_lasts (length book) book) (all_parts (length book) book), all_lasts-length (length book) book)

-- each rule is a step
below-each : (n : ℕ) (ns : List ℕ) → AreBelow n ns → (m : ℕ) → Contains ns m → m < n
below-each n [] h m c = absurd (Contains-nil m c)
below-each n (k ∷ ns) h m c = elim (Contains-cases k ns m c) [
  | inl e ↦ subst (λ (x : ℕ). x < n) (sym e) h.0
  | inr d ↦ below-each n ns h.1 m d
]

-- the list of nodes has steps alone
abbrev AreStepsBelow : ℕ → List (List (Rule ℕ)) → Type 0
AreStepsBelow n nodes = (rs : List (Rule ℕ)) → Contains nodes rs → (r : Rule ℕ) → Contains rs r → IsStep n r

steps-none : (n : ℕ) → AreStepsBelow n []
steps-none n rs c = absurd (Contains-nil rs c)

steps-more : (n : ℕ) (rs : List (Rule ℕ)) (nodes : List (List (Rule ℕ))) → ((r : Rule ℕ) → Contains rs r → IsStep n r) → AreStepsBelow n nodes → AreStepsBelow n (rs ∷ nodes)
steps-more n rs nodes h k qs c r d = elim (Contains-cases rs nodes qs c) [
  | inl e ↦ h r (subst (λ (ps : List (Rule ℕ)). Contains ps r) e d)
  | inr m ↦ k qs m r d
]

steps-append : (n : ℕ) (xs ys : List (List (Rule ℕ))) → AreStepsBelow n xs → AreStepsBelow n ys → AreStepsBelow n (xs ++ ys)
steps-append n xs ys h k rs c r d = elim (Contains-append_cases xs ys rs c) [ inl m ↦ h rs m r d | inr m ↦ k rs m r d ]

one-step : (n : ℕ) (r : Rule ℕ) → IsStep n r → (q : Rule ℕ) → Contains (r ∷ []) q → IsStep n q
one-step n r s q c = elim (Contains-cases r [] q c) [
  | inl e ↦ subst (λ (x : Rule ℕ). IsStep n x) (sym e) s
  | inr m ↦ absurd (Contains-nil q m)
]

parts_from-steps : (n : ℕ) (r : Rule ℕ) (k : ℕ) (ns : List ℕ) → IsStep n r → AreBelow n ns → k + length ns ≤ n → AreStepsBelow n (parts_from r k ns) × IsStep n (last_from r k ns)
parts_from-steps n r k [] s b l = (steps-none n, s)
parts_from-steps n r k (m ∷ ns) s b l =
    let here : k < n = omega (arith, l) in
    let rest = parts_from-steps n (Any k m) (suc k) ns (here, b.0) b.1 (omega (arith, l)) in
    (steps-more n (r ∷ []) (parts_from (Any k m) (suc k) ns) (one-step n r s) rest.0, rest.1)

parts_of-steps : (n k : ℕ) (r : Rule ℕ) → HasNodesBelow n r → k + part_count r ≤ n → AreStepsBelow n (parts_of k r) × IsStep n (last_of k r)
parts_of-steps n k (Head x ns) b l = parts_from-steps n (Head x []) k ns refl b l
parts_of-steps n k (Any p m) b l = (steps-none n, b)

parts_in-steps : (n k : ℕ) (rs : List (Rule ℕ)) → HaveNodesBelow n rs → k + parts_count rs ≤ n → AreStepsBelow n (parts_in k rs) × ((r : Rule ℕ) → Contains (lasts_in k rs) r → IsStep n r)
parts_in-steps n k [] b l = (steps-none n, (λ r c. absurd (Contains-nil r c)))
parts_in-steps n k (q ∷ rs) b l =
    let first = parts_of-steps n k q b.0 (omega (arith, l)) in
    let rest = parts_in-steps n (k + part_count q) rs b.1 (omega (arith, l)) in (
      steps-append n (parts_of k q) (parts_in (k + part_count q) rs) first.0 rest.0,
      (λ r c. elim (Contains-cases (last_of k q) (lasts_in (k + part_count q) rs) r c) [
        | inl e ↦ subst (λ (x : Rule ℕ). IsStep n x) (sym e) first.1
        | inr m ↦ rest.1 r m
      ]),
    )

all-steps : (n k : ℕ) (book : List (List (Rule ℕ))) → ((i : ℕ) → HaveNodesBelow n (rules_at book i)) → k + length (all_parts k book) ≤ n → AreStepsBelow n (all_parts k book) × AreStepsBelow n (all_lasts k book)
all-steps n k [] b l = (steps-none n, steps-none n)
all-steps n k (rs ∷ book) b l =
    let next = k + parts_count rs in
    let sum = length-append (parts_in k rs) (all_parts next book) in
    let size = parts_in-length k rs in
    let first = parts_in-steps n k rs (b 0) (omega (arith, l, sum, size)) in
    let rest = all-steps n next book (λ i. b (suc i)) (omega (arith, l, sum, size)) in
    (steps-append n (parts_in k rs) (all_parts next book) first.0 rest.0, steps-more n (lasts_in k rs) (all_lasts next book) first.1 rest.1)

-- more nodes are no harm
nodes-more : (n m : ℕ) → n ≤ m → (ns : List ℕ) → AreBelow n ns → AreBelow m ns
nodes-more n m l [] b = tt
nodes-more n m l (k ∷ ns) b = (omega (arith, l, b.0), nodes-more n m l ns b.1)

rule-more : (n m : ℕ) → n ≤ m → (r : Rule ℕ) → HasNodesBelow n r → HasNodesBelow m r
rule-more n m l (Head x ns) b = nodes-more n m l ns b
rule-more n m l (Any p q) b = (omega (arith, l, b.0), omega (arith, l, b.1))

rules-more : (n m : ℕ) → n ≤ m → (rs : List (Rule ℕ)) → HaveNodesBelow n rs → HaveNodesBelow m rs
rules-more n m l [] b = tt
rules-more n m l (r ∷ rs) b = (rule-more n m l r b.0, rules-more n m l rs b.1)

-- the rules of a node are those of an item of the list
node-item : (nodes : List (List (Rule ℕ))) (i : ℕ) (r : Rule ℕ) → Contains (rules_at nodes i) r → Contains nodes (rules_at nodes i)
node-item [] i r c = absurd (Contains-nil r c)
node-item (rs ∷ nodes) zero r c = Contains-here rs nodes
node-item (rs ∷ nodes) (suc i) r c = Contains-later (rules_at nodes i) rs nodes (node-item nodes i r c)

pub stepwise-steps : (book : List (List (Rule ℕ))) → IsRuleBook book → AreSteps (stepwise book)
stepwise-steps book h i r c =
    let n = length book in
    let whole = length (stepwise book) in
    let sum = length-append (all_lasts n book) (all_parts n book) in
    let steps = all-steps whole n book (λ j. rules-more n whole (stepwise-length book) (rules_at book j) (h.within j)) (omega (arith, sum, all_lasts-length n book)) in
    steps-append whole (all_lasts n book) (all_parts n book) steps.1 steps.0 (rules_at (stepwise book) i) (node-item (stepwise book) i r c) r c

-- from this number on the nodes of the book begin with these
abbrev Stand : List (List (Rule ℕ)) → ℕ → List (List (Rule ℕ)) → Type 0
Stand book k [] = Unit {0}
Stand book k (rs ∷ nodes) = (rules_at book k ≡ rs) × Stand book (suc k) nodes

stand-parts : (book : List (List (Rule ℕ))) (k : ℕ) (xs ys : List (List (Rule ℕ))) → Stand book k (xs ++ ys) → Stand book k xs × Stand book (k + length xs) ys
stand-parts book k [] ys s = (tt, subst (λ (n : ℕ). Stand book n ys) (let e : k ≡ k + 0 = omega arith in e) s)
stand-parts book k (x ∷ xs) ys s =
    let rest = stand-parts book (suc k) xs ys s.1 in
    ((s.0, rest.0), subst (λ (n : ℕ). Stand book n ys) (let e : suc k + length xs ≡ k + suc (length xs) = omega arith in e) rest.1)

stand-later : (rs : List (Rule ℕ)) (book : List (List (Rule ℕ))) (k : ℕ) (nodes : List (List (Rule ℕ))) → Stand book k nodes → Stand (rs ∷ book) (suc k) nodes
stand-later rs book k [] s = tt
stand-later rs book k (x ∷ nodes) s = (s.0, stand-later rs book (suc k) nodes s.1)

stand-whole : (nodes : List (List (Rule ℕ))) → Stand nodes 0 nodes
stand-whole [] = tt
stand-whole (rs ∷ nodes) = (refl, stand-later rs nodes 0 nodes (stand-whole nodes))

stand-behind : (front nodes : List (List (Rule ℕ))) → Stand (front ++ nodes) (length front) nodes
stand-behind [] nodes = stand-whole nodes
stand-behind (rs ∷ front) nodes = stand-later rs (front ++ nodes) (length front) nodes (stand-behind front nodes)

-- What is made by a rule is made by its last step, where its parts stand behind the nodes.
module _ (whole : List (List (Rule ℕ))) where
  abbrev Gen : ℕ → Applicative → Type 0
  Gen i e = IsGenerated whole i e

  abbrev MadeIn : Rule ℕ → Applicative → Type 0
  MadeIn r e = MadeBy ℕ (Generates ℕ (NodeRule whole)) r e

  abbrev AppliedIn : Applicative → List ℕ → Applicative → Type 0
  AppliedIn f ns e = AppliedTo ℕ (Generates ℕ (NodeRule whole)) f ns e

  chain-makes : (r : Rule ℕ) (k : ℕ) (ns : List ℕ) (f e : Applicative) → Stand whole k (parts_from r k ns) → MadeIn r f → AppliedIn f ns e → MadeIn (last_from r k ns) e
  chain-makes r k [] f e s m a = subst (λ (x : Applicative). MadeIn r x) (sym a) m
  chain-makes r k (n ∷ ns) f e s m a =
      let here : NodeRule whole k r = subst (λ (rs : List (Rule ℕ)). Contains rs r) (sym s.0) (Contains-here r []) in
      chain-makes (Any k n) (suc k) ns (apply f a.0) e s.1 (f, a.0, remade ℕ (NodeRule whole) k r f here m, a.1, refl) a.2

  only-rule : (k : ℕ) (r : Rule ℕ) (f : Applicative) → rules_at whole k ≡ r ∷ [] → Gen k f → MadeIn r f
  only-rule k r f s g =
      let u = unmade ℕ (NodeRule whole) g in
      elim (Contains-cases r [] u.0 (subst (λ (rs : List (Rule ℕ)). Contains rs u.0) s u.1)) [
        | inl e ↦ subst (λ (q : Rule ℕ). MadeIn q f) e u.2
        | inr c ↦ absurd (Contains-nil u.0 c)
      ]

  chain-made : (r : Rule ℕ) (k : ℕ) (ns : List ℕ) (e : Applicative) → Stand whole k (parts_from r k ns) → MadeIn (last_from r k ns) e → (f : Applicative) × MadeIn r f × AppliedIn f ns e
  chain-made r k [] e s m = (e, m, refl)
  chain-made r k (n ∷ ns) e s m =
      let u = chain-made (Any k n) (suc k) ns e s.1 m in
      let v = u.1 in
      (v.0, only-rule k r v.0 s.0 v.2, (v.1, v.3, subst (λ (x : Applicative). AppliedIn x ns e) v.4 u.2))

  last-makes : (k : ℕ) (r : Rule ℕ) (e : Applicative) → Stand whole k (parts_of k r) → MadeIn r e → MadeIn (last_of k r) e
  last-makes k (Head x ns) e s m = chain-makes (Head x []) k ns (component x) e s refl m
  last-makes k (Any l n) e s m = m

  last-made : (k : ℕ) (r : Rule ℕ) (e : Applicative) → Stand whole k (parts_of k r) → MadeIn (last_of k r) e → MadeIn r e
  last-made k (Head x ns) e s m =
      let u = chain-made (Head x []) k ns e s m in
      subst (λ (f : Applicative). AppliedIn f ns e) u.1 u.2
  last-made k (Any l n) e s m = m

  rest-stands : (k : ℕ) (r : Rule ℕ) (rs : List (Rule ℕ)) → Stand whole k (parts_in k (r ∷ rs)) → Stand whole k (parts_of k r) × Stand whole (k + part_count r) (parts_in (k + part_count r) rs)
  rest-stands k r rs s =
      let u = stand-parts whole k (parts_of k r) (parts_in (k + part_count r) rs) s in
      (u.0, subst (λ (n : ℕ). Stand whole (k + n) (parts_in (k + part_count r) rs)) (parts_of-length k r) u.1)

  lasts-make : (k : ℕ) (rs : List (Rule ℕ)) (r : Rule ℕ) (e : Applicative) → Stand whole k (parts_in k rs) → Contains rs r → MadeIn r e → (q : Rule ℕ) × Contains (lasts_in k rs) q × MadeIn q e
  lasts-make k [] r e s c m = absurd (Contains-nil r c)
  lasts-make k (p ∷ rs) r e s c m =
      let u = rest-stands k p rs s in
      let next = k + part_count p in
      elim (Contains-cases p rs r c) [
        | inl h ↦ (last_of k p, Contains-here (last_of k p) (lasts_in next rs), last-makes k p e u.0 (subst (λ (x : Rule ℕ). MadeIn x e) h m))
        | inr d ↦ (let v = lasts-make next rs r e u.1 d m in (v.0, Contains-later v.0 (last_of k p) (lasts_in next rs) v.1, v.2))
      ]

  lasts-made : (k : ℕ) (rs : List (Rule ℕ)) (q : Rule ℕ) (e : Applicative) → Stand whole k (parts_in k rs) → Contains (lasts_in k rs) q → MadeIn q e → (r : Rule ℕ) × Contains rs r × MadeIn r e
  lasts-made k [] q e s c m = absurd (Contains-nil q c)
  lasts-made k (p ∷ rs) q e s c m =
      let u = rest-stands k p rs s in
      let next = k + part_count p in
      elim (Contains-cases (last_of k p) (lasts_in next rs) q c) [
        | inl h ↦ (p, Contains-here p rs, last-made k p e u.0 (subst (λ (x : Rule ℕ). MadeIn x e) h m))
        | inr d ↦ (let v = lasts-made next rs q e u.1 d m in (v.0, Contains-later v.0 p rs v.1, v.2))
      ]

  -- where the rules of a node stand, and their parts
  node-stands : (k : ℕ) (book : List (List (Rule ℕ))) (i : ℕ) → i < length book → Stand whole k (all_parts k book) → (from : ℕ) × (rules_at (all_lasts k book) i ≡ lasts_in from (rules_at book i)) × Stand whole from (parts_in from (rules_at book i))
  node-stands k [] i l s = absurd (omega (arith, l))
  node-stands k (rs ∷ book) zero l s = (k, refl, (stand-parts whole k (parts_in k rs) (all_parts (k + parts_count rs) book) s).0)
  node-stands k (rs ∷ book) (suc i) l s =
      let u = stand-parts whole k (parts_in k rs) (all_parts (k + parts_count rs) book) s in
      node-stands (k + parts_count rs) book i (omega (arith, l))
      (subst (λ (n : ℕ). Stand whole (k + n) (all_parts (k + parts_count rs) book)) (parts_in-length k rs) u.1)

argument-less : (n : ℕ) (r : Rule ℕ) → HasNodesBelow n r → (m : ℕ) → Contains (arguments_of_rule r) m → m < n
argument-less n (Head x ns) b m c = below-each n ns b m c
argument-less n (Any p q) b m c = below-each n (p ∷ q ∷ []) (b.0, (b.1, tt)) m c

rule-within : (n : ℕ) (rs : List (Rule ℕ)) (r : Rule ℕ) → HaveNodesBelow n rs → Contains rs r → HasNodesBelow n r
rule-within n [] r b c = absurd (Contains-nil r c)
rule-within n (q ∷ rs) r b c = elim (Contains-cases q rs r c) [
  | inl e ↦ subst (λ (x : Rule ℕ). HasNodesBelow n x) (sym e) b.0
  | inr d ↦ rule-within n rs r b.1 d
]

module _ (book : List (List (Rule ℕ))) (h : IsRuleBook book) where
  abbrev stepped : List (List (Rule ℕ))
  stepped = stepwise book

  node-of-book : (i : ℕ) → i < length book → (from : ℕ) × (rules_at stepped i ≡ lasts_in from (rules_at book i)) × Stand stepped from (parts_in from (rules_at book i))
  node-of-book i l =
      let n = length book in
      let parts : Stand stepped n (all_parts n book) = subst (λ (k : ℕ). Stand stepped k (all_parts n book)) (all_lasts-length n book) (stand-behind (all_lasts n book) (all_parts n book)) in
      let u = node-stands stepped n book i l parts in
      let there : rules_at stepped i ≡ rules_at (all_lasts n book) i = get_or_append_left (all_lasts n book) (all_parts n book) [] i (omega (arith, l, all_lasts-length n book)) in
      (u.0, there ∙ u.1, u.2)

  -- a node of the book generates the same by both
  pub stepwise-language : (i : ℕ) (e : Applicative) → i < length book → IsGenerated book i e ↔ IsGenerated (stepwise book) i e
  stepwise-language i e l =
      language ℕ (NodeRule book) (λ (j : ℕ). j < length book) (Generates ℕ (NodeRule stepped))
      (λ j r k c m d. argument-less (length book) r (rule-within (length book) (rules_at book j) r (h.within j) c) m d)
      (λ j r d k c m.
      let u = node-of-book j k in
      let v = lasts-make stepped u.0 (rules_at book j) r d u.2 c m in
      remade ℕ (NodeRule stepped) j v.0 d (subst (λ (rs : List (Rule ℕ)). Contains rs v.0) (sym u.1) v.1) v.2)
      (λ j d k g.
      let u = node-of-book j k in
      let v = unmade ℕ (NodeRule stepped) g in
      lasts-made stepped u.0 (rules_at book j) v.0 d u.2 (subst (λ (rs : List (Rule ℕ)). Contains rs v.0) u.1 v.1) v.2)
      i e l
