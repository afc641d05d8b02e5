use Rattle.std.proofs.Common.{◌≡◌, ℕ, List, true, map, sym, subst, ◌∙◌, inl, inr}
use Rattle.std.specs.Prelude.{Contains}
use Rattle.cls_base.proofs.Lists.{Contains-nil}
use Rattle.cls_taxon.specs.Orders.{stands_in}
use Rattle.cls_taxon.specs.Places.{with_name}
use Rattle.cls_taxon.specs.PairGraphs.{pair_of}
use Rattle.cls_taxon.proofs.PlaceLaws.{with_name-cases}
use Rattle.cls_taxon.proofs.taxonomy.places_of.Goals.{in-Some+in_ok-insert, in_default}
use Rattle.cls_taxon.proofs.taxonomy.places_of.Goals as goal

-- a name that is put in stands in a pair if it was held before
standing_more :
    (ps : List (ℕ × ℕ)) (first old new : List ℕ) (name : ℕ) → ((a : ℕ) → Contains first a → stands_in ps a ≡ true)
    → ((a : ℕ) → Contains old a → stands_in ps a ≡ true) → Contains first name → new ≡ with_name old name
    → (a : ℕ) → Contains new a → stands_in ps a ≡ true
standing_more ps first old new name f h c e a d = elim (with_name-cases old name a (subst (λ l. Contains l a) e d)) [
  | inl k ↦ h a k
  | inr is ↦ subst (λ x. stands_in ps x ≡ true) (sym is) (f name c)
]

pub loop-number-preserved : goal.loop-number-preserved
loop-number-preserved c =
    let ps = map pair_of c.args.pairs.now in
    let first = c.hold_names.new.places in
    let all : (a : ℕ) → Contains first a → stands_in ps a ≡ true = (λ a d. elim (c.in_ok-hold_names.ensures.standing a d) [
      | inl e ↦ absurd (Contains-nil a (subst (λ (l : List ℕ). Contains l a) c.new-first.ensures e))
      | inr s ↦ s
    ]) in
    elim c.match-get.branch [
      | in-Some+in_ok-insert w ↦
          let found = w.in-Some.ensures.lookup in
          let there : Contains c.as_slice.result.now w.in-Some.name.now = (_, found.3.0, sym found.1) in
          standing_more ps first c.loop-number.places c.match-get.places w.in-Some.name.now all c.loop-number.invariant
          (subst (λ (l : List ℕ). Contains l w.in-Some.name.now) c.as_slice.ensures.names there) (w.places-is ∙ w.in_ok-insert.ensures.ok)
      | in_default w ↦ λ a d. c.loop-number.invariant a (subst (λ (l : List ℕ). Contains l a) w.places-is d)
    ]
