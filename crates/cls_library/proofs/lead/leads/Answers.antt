use Rattle.std.proofs.Common.{◌≡◌, ℕ, List, Option, Some, refl, sym, subst, ◌∙◌}
use Rattle.std.specs.Prelude.{slice_get, IsSomeAnd}
use Rattle.cls_path.specs.Paths.{PathLe, TypePath}
use Rattle.cls_taxon.specs.Orders.{Declared}
use Rattle.cls_library.specs.Arrows.{MultiArrow}
use Rattle.cls_library.specs.declared.place.Place.{Place}
use Rattle.cls_library.specs.Endings.{ending_of}
use Rattle.cls_library.specs.Index.{Spot}
use Rattle.cls_library.specs.Libraries.{arrows_at, below_in, variances_in}
use Rattle.cls_library.proofs.Leading.{bare-leads, spot-place, spot-within}
use Rattle.cls_library.proofs.Suits.{library-suits}
use Rattle.cls_library.proofs.lead.leads.Goals as goal

abbrev it : Place → ℕ → Spot
it p i = record { place = p; position = i }

pub arrows-arrows-requires : goal.arrows-arrows-requires
arrows-arrows-requires c =
    let place = spot-place c.args.lib.now (it c.args.place c.args.position) (ending_of c.args.path.now) c.requires.ends in
    record { declared = place.declared; within = place.within }

pub get-arrow-requires : goal.get-arrow-requires
get-arrow-requires c = rw c.arrows-arrows.ensures.arrows (spot-within c.args.lib.now (it c.args.place c.args.position) (ending_of c.args.path.now) c.requires.ends)

pub le-requires : goal.le-requires
le-requires c =
    let l = c.args.lib.now in
    let e = it c.args.place c.args.position in
    let place = spot-place l e (ending_of c.args.path.now) c.requires.ends in
    let stands : slice_get (arrows_at l e.place.component e.place.count) e.position ≡ Some c.get-arrow.result = subst (λ (arrows : List MultiArrow). slice_get arrows e.position ≡ Some c.get-arrow.result) c.arrows-arrows.ensures.arrows c.get-arrow.ensures in
    record {
      suits = rw (c.taxonomy.ensures, c.target.ensures) (library-suits l e.place.component e.place.count e.position c.get-arrow.result c.arrows-arrows.ensures.library place.declared stands);
      other_suits = rw c.taxonomy.ensures c.requires.suits;
    }

pub returns : goal.returns
returns c =
    let l = c.args.lib.now in
    let q = c.args.path.now in
    let e = it c.args.place c.args.position in
    let stands : slice_get (arrows_at l e.place.component e.place.count) e.position ≡ Some c.get-arrow.result = subst (λ (arrows : List MultiArrow). slice_get arrows e.position ≡ Some c.get-arrow.result) c.arrows-arrows.ensures.arrows c.get-arrow.ensures in
    let P : MultiArrow → Type 0 = λ a. PathLe (below_in l.taxonomy) (variances_in l.taxonomy) a.target q in
    let order : c.taxonomy.result.now ≡ l.taxonomy = c.taxonomy.ensures in
    let Le : Declared → TypePath → Type 0 = λ d x. PathLe (below_in d) (variances_in d) x q in (
      (λ t. subst (λ (o : Option MultiArrow). IsSomeAnd o P) (sym stands) (subst (Le l.taxonomy) c.target.ensures (subst (λ (d : Declared). Le d c.target.result.now) order (c.le.ensures.cases.0 t)))),
      (λ leads.
          let le : P c.get-arrow.result = subst (λ (o : Option MultiArrow). IsSomeAnd o P) stands leads in
          c.le.ensures.cases.1 (subst (λ (d : Declared). Le d c.target.result.now) (sym order) (subst (Le l.taxonomy) (sym c.target.ensures) le))),
    )

pub returns-then-is_bare : goal.returns-then-is_bare
returns-then-is_bare c = ((λ t. bare-leads c.args.lib.now (it c.args.place c.args.position) c.args.path.now (sym c.is_bare.ensures ∙ c.if-is_bare.true) c.requires.ends), (λ leads. refl))
