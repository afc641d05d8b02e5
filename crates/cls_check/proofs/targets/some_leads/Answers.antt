use Rattle.std.proofs.Common.{ℕ, ◌≡◌, length, get_or, subst, sym, ap, ◌∙◌, arith, below_more, List, Option, Some}
use Rattle.std.specs.Prelude.{slice_get, IsSomeAnd}
use Rattle.cls_base.proofs.Lists.{AreBelow-at}
use Rattle.cls_taxon.specs.Orders.{Declared}
use Rattle.cls_path.specs.Paths.{TypePath, Suits}
use Rattle.cls_library.specs.Arrows.{MultiArrow}
use Rattle.cls_library.specs.Libraries.{Library, variances_in}
use Rattle.cls_library.specs.Reaching.{PathLeIn}
use Rattle.cls_library.proofs.Suits.{library-suits}
use Rattle.cls_check.specs.Checking.{LeadsTo}
use Rattle.cls_check.specs.Places.{arrows_in}
use Rattle.cls_check.proofs.Loops.{not-false, is-true, differs}
use Rattle.cls_check.proofs.Order.{le_by}
use Rattle.cls_check.proofs.Sets.{each_number, number_at}
use Rattle.cls_check.proofs.targets.some_leads.Goals as goal

-- the arrow that the loop looks at
at : (seen arrows : List MultiArrow) → seen ≡ arrows → (k : ℕ) (a : MultiArrow) → slice_get seen k ≡ Some a → slice_get arrows k ≡ Some a
at seen arrows e k a h = ap (λ q. slice_get q k) (sym e) ∙ h

leads : (l : Library) (arrows : List MultiArrow) (q : TypePath) (k : ℕ) (a : MultiArrow) → slice_get arrows k ≡ Some a → (t : TypePath) → t ≡ a.target → PathLeIn l t q → LeadsTo l arrows q k
leads l arrows q k a e t s h = subst (λ (o : Option MultiArrow). IsSomeAnd o (λ b. PathLeIn l b.target q)) (sym e) (subst (λ u. PathLeIn l u q) s h)

leads_not : (l : Library) (arrows : List MultiArrow) (q : TypePath) (k : ℕ) (a : MultiArrow) → slice_get arrows k ≡ Some a → (t : TypePath) → t ≡ a.target → LeadsTo l arrows q k → PathLeIn l t q
leads_not l arrows q k a e t s h = subst (λ u. PathLeIn l u q) (sym s) (subst (λ (o : Option MultiArrow). IsSomeAnd o (λ b. PathLeIn l b.target q)) e h)

pub get-requires : goal.get-requires
get-requires c =
    let m = AreBelow-at (length (arrows_in c.args.lib.now c.args.place)) c.args.positions.now c.loop-position.position-index c.requires.within c.loop-position-test.true in
    let e = ap (λ (q : List MultiArrow). length q) c.arrows-arrows.ensures.arrows in omega arith

pub le-requires-clause-suits : goal.le-requires-clause-suits
le-requires-clause-suits c =
    let k = get_or c.args.positions.now c.loop-position.position-index 0 in
    let a = at c.arrows-arrows.result (arrows_in c.args.lib.now c.args.place) c.arrows-arrows.ensures.arrows k c.get.result c.get.ensures in
    subst (λ (d : Declared). Suits (variances_in d) c.target-target.result.now) (sym c.taxonomy.ensures)
    (subst (λ u. Suits (variances_in c.args.lib.now.taxonomy) u) (sym c.target-target.ensures)
    (library-suits c.args.lib.now c.args.place.component c.args.place.n k c.get.result c.arrows-arrows.ensures.library c.requires.place.declared a))

pub returns-then-le : goal.returns-then-le
returns-then-le c =
    let k = get_or c.args.positions.now c.loop-position.position-index 0 in
    let a = at c.arrows-arrows.result (arrows_in c.args.lib.now c.args.place) c.arrows-arrows.ensures.arrows k c.get.result c.get.ensures in (
      (λ t. (
        k,
        number_at c.args.positions.now c.loop-position.position-index c.loop-position-test.true,
        leads c.args.lib.now (arrows_in c.args.lib.now c.args.place) c.args.path.now k c.get.result a c.target-target.result.now c.target-target.ensures
            ((le_by c.args.lib.now c.taxonomy.result.now c.taxonomy.ensures c.target-target.result.now c.args.path.now c.le.ensures.cases).0 c.if-le.true),
      )),
      (λ h. is-true),
    )

pub loop-position-preserved : goal.loop-position-preserved
loop-position-preserved c =
    let k = get_or c.args.positions.now c.loop-position.position-index 0 in
    let a = at c.arrows-arrows.result (arrows_in c.args.lib.now c.args.place) c.arrows-arrows.ensures.arrows k c.get.result c.get.ensures in
    below_more _ _ c.loop-position.invariant (λ h. differs (sym c.if-le.false ∙ (le_by c.args.lib.now c.taxonomy.result.now c.taxonomy.ensures c.target-target.result.now c.args.path.now c.le.ensures.cases).1
    (leads_not c.args.lib.now (arrows_in c.args.lib.now c.args.place) c.args.path.now k c.get.result a c.target-target.result.now c.target-target.ensures h)))

pub returns : goal.returns
returns c = (
  (λ t. absurd (not-false t)),
  (λ h. absurd (each_number (λ i. LeadsTo c.args.lib.now (arrows_in c.args.lib.now c.args.place) c.args.path.now i → ⊥) c.args.positions.now (λ k l. c.loop-position.invariant k (omega arith)) h.0 h.1 h.2)),
)
