use Rattle.std.proofs.Common.{◌≡◌, ◌<◌, ◌≤◌, ◌++◌, ◌∷◌, ℕ, length, arith, List, [], true, false, map, get_or, rules, sym, subst, ◌∙◌, ap}
use Rattle.std.specs.Prelude.{slice_index_or}
use Rattle.std.proofs.lemmas.List.{get_or_default, take_all}
use Rattle.cls_path.specs.Paths.{PathLe, TypePath, unit}
use Rattle.cls_taxon.specs.Decisions.{is_below}
use Rattle.cls_library.specs.Arrows.{MultiArrow}
use Rattle.cls_library.specs.Families.{IsFamilyIn}
use Rattle.cls_library.specs.Libraries.{below_in, variances_in}
use Rattle.cls_library.specs.Splits.{places_from, split_at, target_at}
use Rattle.cls_library.proofs.EndingLaws.{place-within, kind-within, not-below, suits-at}
use Rattle.cls_library.proofs.FamilyLaws.{family-skip, family-take}
use Rattle.cls_library.proofs.Places.{IsPlace, place-in}
use Rattle.cls_library.proofs.family.family_of.Goals as goal
use Rattle.cls_library.proofs.family.family_of.Goals.{then-may_lead+then-le+in-Ok+in_ok-push, else-may_lead, else-may_lead-via-then-may_lead+else-le, else-may_lead-via-else-may_lead}

differs : false ≡ true → ⊥
differs e = cc

module _ (n : ℕ) (paths : List TypePath) (column : List ℕ) (h : column ≡ places_from n 0 paths) (i count : ℕ) (counted : count ≡ length column) (test : i < count) (k : ℕ) (is : k ≡ slice_index_or column i 0) where
  within : i < length column
  within = omega arith

  placed : IsPlace n paths k
  placed = subst (IsPlace n paths) (sym is) (place-in n paths column h i within)

pub bounds-endings-place : goal.bounds-endings-place
bounds-endings-place c =
    let place = placed c.args.count c.args.paths.now c.args.column.now c.requires.column c.loop-i.i c.len-i-end.result c.len-i-end.ensures c.loop-i-test.true c.get-place.result c.get-place.ensures in
    place-within c.args.kinds.now c.args.endings.now c.args.paths.now c.get-place.result c.requires.endings place.within

pub bounds-kinds-endings : goal.bounds-kinds-endings
bounds-kinds-endings c =
    let place = placed c.args.count c.args.paths.now c.args.column.now c.requires.column c.loop-i.i c.len-i-end.result c.len-i-end.ensures c.loop-i-test.true c.get-place.result c.get-place.ensures in
    kind-within c.args.kinds.now c.args.endings.now c.args.paths.now c.get-place.result c.requires.endings place.within

pub bounds-paths-place : goal.bounds-paths-place
bounds-paths-place c = (placed c.args.count c.args.paths.now c.args.column.now c.requires.column c.loop-i.i c.len-i-end.result c.len-i-end.ensures c.loop-i-test.true c.get-place.result c.get-place.ensures).within

pub le-requires-clause-suits : goal.le-requires-clause-suits
le-requires-clause-suits c =
    let k = c.get-place.result in
    let place = placed c.args.count c.args.paths.now c.args.column.now c.requires.column c.loop-i.i c.len-i-end.result c.len-i-end.ensures c.loop-i-test.true k c.get-place.ensures in
    let t : c.target_of.result.now ≡ target_at c.args.count (slice_index_or c.args.paths.now k unit) = c.target_of.ensures ∙ ap (target_at c.args.count) (c.index-paths-place.is ∙ get_or_default c.args.paths.now k c.index-paths-place.result unit place.within) in
    rw t (suits-at (variances_in c.args.taxonomy.now) c.args.count c.args.paths.now k c.requires.paths place.within)

pub loop-i-preserved : goal.loop-i-preserved
loop-i-preserved c =
    let d = c.args.taxonomy.now in
    let n = c.args.count in
    let paths = c.args.paths.now in
    let column = c.args.column.now in
    let q = c.args.path.now in
    let i = c.loop-i.i in
    let k = c.get-place.result in
    let arrow_at : ℕ → MultiArrow = λ k. split_at n (slice_index_or paths k unit) in
    let place : IsPlace n paths k = placed n paths column c.requires.column i c.len-i-end.result c.len-i-end.ensures c.loop-i-test.true k c.get-place.ensures in
    let inside = within n paths column c.requires.column i c.len-i-end.result c.len-i-end.ensures c.loop-i-test.true k c.get-place.ensures in
    let is : k ≡ get_or column i k = c.get-place.ensures ∙ get_or_default column i 0 k inside in
    let target = λ (p : TypePath) (e : p ≡ get_or paths k p). ap (target_at n) (e ∙ get_or_default paths k p unit place.within) in
    elim c.if-may_lead.branch [
      | then-may_lead+then-le+in-Ok+in_ok-push w ↦ (let p : w.in-Ok.position ≡ i = search rules in
          rw w.family-is (family-take (below_in d) (variances_in d) q arrow_at column i k inside is c.loop-i.family.items c.loop-i.invariant
          (subst (λ x. PathLe (below_in d) (variances_in d) x q) (w.target_of.ensures ∙ target w.index-paths-place.result w.index-paths-place.is) (w.le.ensures.cases.0 w.if-le.true))
          w.push.new.self.items (w.in_ok-push.ensures.items ∙ ap (λ m. c.loop-i.family.items ++ m ∷ []) p)))
      | else-may_lead w ↦ rw w.family-is (family-skip (below_in d) (variances_in d) q arrow_at column i k inside is c.loop-i.family.items c.loop-i.invariant
          (elim w.else-may_lead.branch [
            | else-may_lead-via-then-may_lead+else-le w' ↦ (λ l. differs (sym w'.if-le.false ∙ w'.le.ensures.cases.1
                (subst (λ x. PathLe (below_in d) (variances_in d) x q) (sym (w'.target_of.ensures ∙ target w'.index-paths-place.result w'.index-paths-place.is)) l)))
            | else-may_lead-via-else-may_lead w' ↦ not-below c.args.kinds.now c.args.endings.now paths k c.requires.endings place.within (is_below d) n q (variances_in d) c.args.sought.ending _ c.requires.sought.ending place.enough w'.if-may_lead.ensures
          ]))
    ]

pub returns : goal.returns
returns c =
    let at : ℕ → MultiArrow = λ k. split_at c.args.count (slice_index_or c.args.paths.now k unit) in
    let e = c.len-i-end.ensures in
    let f = c.loop-i-test.false in
    let end : length c.args.column.now ≤ c.loop-i.i = omega arith in
    subst (λ (l : List ℕ). IsFamilyIn c.args.taxonomy.now (map at l) c.args.path.now c.loop-i.family.items) (take_all c.loop-i.i c.args.column.now end) c.loop-i.invariant

pub offset_bounds-kinds-endings : goal.offset_bounds-kinds-endings
offset_bounds-kinds-endings c =
    let place = placed c.args.count c.args.paths.now c.args.column.now c.requires.column c.loop-i.i c.len-i-end.result c.len-i-end.ensures c.loop-i-test.true c.get-place.result c.get-place.ensures in
    let within = kind-within c.args.kinds.now c.args.endings.now c.args.paths.now c.get-place.result c.requires.endings place.within in
    search rules

pub offset_bounds-endings-place : goal.offset_bounds-endings-place
offset_bounds-endings-place c =
    let place = placed c.args.count c.args.paths.now c.args.column.now c.requires.column c.loop-i.i c.len-i-end.result c.len-i-end.ensures c.loop-i-test.true c.get-place.result c.get-place.ensures in
    let within = place-within c.args.kinds.now c.args.endings.now c.args.paths.now c.get-place.result c.requires.endings place.within in
    search rules

pub offset_bounds-paths-place : goal.offset_bounds-paths-place
offset_bounds-paths-place c =
    let within = (placed c.args.count c.args.paths.now c.args.column.now c.requires.column c.loop-i.i c.len-i-end.result c.len-i-end.ensures c.loop-i-test.true c.get-place.result c.get-place.ensures).within in
    search rules
