-- The openings that are gathered have those that are offered.
use Rattle.std.proofs.Common.{◌≡◌, ℕ, ◌+◌, ◌-◌, ◌<◌, ◌≤◌, List, [], length, map, take, get_or, subst, inl, inr, arith}
use Rattle.std.proofs.lemmas.Bool.{cases_lt}
use Rattle.cls_base.specs.declared.rule.Rule.{Rule}
use Rattle.cls_enum.specs.Members.{IsIn}
use Rattle.cls_enum.proofs.Members.{take-whole}
use Rattle.cls_walk.specs.Counts.{HeadRule}
use Rattle.cls_walk.specs.FrameAims.{Aim}
use Rattle.cls_walk.specs.FrameBegins.{aim_of, heads_in, no_head}
use Rattle.cls_walk.specs.FrameColumns.{head_of}
use Rattle.cls_walk.specs.FrameGuides.{least_of, own_size, IsGuide}
use Rattle.cls_walk.specs.FrameOffered.{IsFitting, AreGatheredAt, AreGatheredBy, AreGatheredTo}
use Rattle.cls_walk.specs.FrameWalks.{IsOffered}
use Rattle.cls_walk.specs.Openings.{ArePut, IsGathered}
use Rattle.cls_walk.specs.declared.aims.Aim.{Aim as CodeAim}
use Rattle.cls_walk.specs.declared.guide.Guide.{Guide}
use Rattle.cls_walk.specs.declared.opening.Opening.{Opening}
use Rattle.cls_walk.specs.declared.rules.Head.{Head}
use Rattle.cls_walk.specs.declared.rules.Rules.{Rules}
use Rattle.cls_walk.proofs.FrameAims.{offers-by}
use Rattle.cls_walk.proofs.FrameBegins.{at-head}
use Rattle.cls_walk.proofs.FrameColumns.{more-to}
use Rattle.cls_walk.proofs.FrameOpenings.{rule-in}

module _ (own : HeadRule → ℕ) (size spare first : ℕ) where
  module _ (behind pairs : ℕ) (heads : List Head) where
    abbrev head : ℕ → HeadRule
    head i = head_of (get_or heads i no_head)

    -- one head rule more
    pub gathered-next : (i : ℕ) (old new : List Opening) → ArePut first old new → (IsFitting own size spare behind pairs (head i) → IsGathered first new (head i).0 (length (head i).1 + pairs)) → AreGatheredTo own size spare first behind pairs heads i old → AreGatheredTo own size spare first behind pairs heads (i + 1) new
    gathered-next i old new t f r j l m = elim (cases_lt j i) [
      | inl n ↦ t.kept (head j).0 (length (head j).1 + pairs) (r j n m)
      | inr n ↦
          let e : i ≡ j = omega (arith, l, n) in
          let P : ℕ → Type 0 = λ z. IsFitting own size spare behind pairs (head z) → IsGathered first new (head z).0 (length (head z).1 + pairs) in
          subst P e f m
    ]

    pub gathered-whole : (i : ℕ) (offers : List Opening) → length heads ≤ i → AreGatheredTo own size spare first behind pairs heads i offers → AreGatheredBy own size spare first behind pairs (map head_of heads) offers
    gathered-whole i offers l r h n m =
        let (j, k, e) = at-head heads h n in
        let P : HeadRule → Type 0 = λ z. IsFitting own size spare behind pairs z → IsGathered first offers z.0 (length z.1 + pairs) in
        subst P e (r j (omega (arith, k, l))) m

  module _ (r : Rules) (pairs : ℕ) where
    gathered-put : (aims : List Aim) (old new : List Opening) → ArePut first old new → AreGatheredAt own size spare first r pairs aims old → AreGatheredAt own size spare first r pairs aims new
    gathered-put aims old new t f a j h n m = t.kept h.0 (length h.1 + pairs) (f a j h n m)

    -- one aim more
    pub gathered-aim : (level : List CodeAim) (i : ℕ) (d : CodeAim) (old new : List Opening) → i < length level → ArePut first old new → AreGatheredBy own size spare first (get_or level i d).behind pairs (map head_of (heads_in r (get_or level i d).node)) new
        → AreGatheredAt own size spare first r pairs (map aim_of (take i level)) old → AreGatheredAt own size spare first r pairs (map aim_of (take (i + 1) level)) new
    gathered-aim level i d old new l t f g a j = elim (more-to aim_of level i d a l j) [
      | inl k ↦ gathered-put (map aim_of (take i level)) old new t g a k
      | inr e ↦ let P : Aim → Type 0 = λ z. AreGatheredBy own size spare first z.1 pairs (map head_of (heads_in r z.0)) new in subst P e f
    ]

    pub gathered-level : (level : List CodeAim) (i : ℕ) (offers : List Opening) → length level ≤ i → AreGatheredAt own size spare first r pairs (map aim_of (take i level)) offers → AreGatheredAt own size spare first r pairs (map aim_of level) offers
    gathered-level level i offers l g = let P : List CodeAim → Type 0 = λ zs. AreGatheredAt own size spare first r pairs (map aim_of zs) offers in subst P (take-whole i level l) g

  -- one level more
  pub gathered-more : (r : Rules) (levels : ℕ → List Aim) (i : ℕ) (old new : List Opening) → ArePut first old new → ((q : ℕ) → q < i → AreGatheredAt own size spare first r q (levels q) old) → AreGatheredAt own size spare first r i (levels i) new
      → (q : ℕ) → q < i + 1 → AreGatheredAt own size spare first r q (levels q) new
  gathered-more r levels i old new t f h q l = elim (cases_lt q i) [
    | inl m ↦ gathered-put r q (levels q) old new t (f q m)
    | inr m ↦ let e : i ≡ q = omega (arith, l, m) in let Q : ℕ → Type 0 = λ z. AreGatheredAt own size spare first r z (levels z) new in subst Q e h
  ]

module _ (book : List (List (Rule ℕ))) (cost : ℕ → ℕ) (g : Guide) (right : IsGuide book cost g) (size spare first : ℕ) where
  -- what is offered is gathered where all levels are gone through
  pub offered-gathered : (levels : ℕ → List Aim) (count : ℕ) (offers : List Opening) → ((q : ℕ) → count ≤ q → levels q ≡ []) → ((q : ℕ) → q < count → AreGatheredAt (own_size cost g) size spare first g.rules.now q (levels q) offers)
      → (x k : ℕ) → IsOffered book (least_of g) cost levels size spare x k → IsGathered first offers x k
  offered-gathered levels count offers f r x k o =
      let b = offers-by book (least_of g) levels (size - cost x) x k o.offers in
      let q = b.pairs in
      let P : ℕ → Type 0 = λ z. IsGathered first offers x z in
      let n = b.count in
      let s = b.small in
      let c = o.cheap in
      let w = o.few in
      elim (cases_lt q count) [
        | inl l ↦ subst P n (r q l (b.node, b.behind) b.aim (x, b.nodes) (rule-in book cost g right b.node x b.nodes b.rule) record {
          small = omega (arith, s, c);
          few = omega (arith, n, w);
        })
        | inr l ↦ absurd (let R : List Aim → Type 0 = λ zs. IsIn zs (b.node, b.behind) in subst R (f q l) b.aim)
      ]
