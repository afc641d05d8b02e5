use Rattle.std.proofs.Common.{ℕ, List, length, sym, subst, ◌∙◌}
use Rattle.std.proofs.lemmas.Option.{slice_get_within}
use Rattle.cls_path.specs.Paths.{listed}
use Rattle.cls_library.specs.Families.{AreFamilies}
use Rattle.cls_library.specs.Libraries.{arrows_at}
use Rattle.cls_expand.proofs.Places.{families_ascend, cover_below}
use Rattle.cls_expand.proofs.FamilyCovers.{covers_goal}
use Rattle.cls_cert.specs.Conditions.{forms_of}
use Rattle.cls_cert.proofs.Lists.{got_list_item}
use Rattle.cls_cert.proofs.BlockLaws.{few_covers}
use Rattle.cls_cert.proofs.ChoiceLaws.{given_declared, given_within, first_choice, cover_given}
use Rattle.cls_cert.proofs.choosing.first_cover.Goals as goal

pub families_of-requires-clause-declared : goal.families_of-requires-clause-declared
families_of-requires-clause-declared c = given_declared c.args.lib.now (forms_of c.args.grammar.now) (listed c.args.goal.now) c.args.x c.args.args.now c.requires.given

pub families_of-requires-clause-within : goal.families_of-requires-clause-within
families_of-requires-clause-within c = given_within c.args.lib.now (forms_of c.args.grammar.now) (listed c.args.goal.now) c.args.x c.args.args.now c.requires.given

pub few_covers-requires-clause-ascending : goal.few_covers-requires-clause-ascending
few_covers-requires-clause-ascending c =
    let l = c.args.lib.now in
    let arrows = arrows_at l c.args.x (length c.args.args.now) in
    families_ascend l arrows c.args.goal.now c.as_slice.result.now (subst (λ (fs : List (List ℕ)). AreFamilies l arrows c.args.goal.now fs) (sym c.as_slice.ensures.value) c.in_ok-families.ensures)

pub few_covers-requires-clause-few : goal.few_covers-requires-clause-few
few_covers-requires-clause-few c =
    let l = c.args.lib.now in
    let arrows = arrows_at l c.args.x (length c.args.args.now) in
    few_covers l c.args.x (length c.args.args.now) c.args.goal.now c.as_slice.result.now
    (given_declared l (forms_of c.args.grammar.now) (listed c.args.goal.now) c.args.x c.args.args.now c.requires.given)
    (given_within l (forms_of c.args.grammar.now) (listed c.args.goal.now) c.args.x c.args.args.now c.requires.given)
    c.requires.narrow (subst (λ (fs : List (List ℕ)). AreFamilies l arrows c.args.goal.now fs) (sym c.as_slice.ensures.value) c.in_ok-families.ensures)

pub first_giving-requires-clause-few : goal.first_giving-requires-clause-few
first_giving-requires-clause-few c = given_within c.args.lib.now (forms_of c.args.grammar.now) (listed c.args.goal.now) c.args.x c.args.args.now c.requires.given

pub first_giving-requires-clause-below : goal.first_giving-requires-clause-below
first_giving-requires-clause-below c = λ s m i k.
    let l = c.args.lib.now in
    let arrows = arrows_at l c.args.x (length c.args.args.now) in
    let h = subst (λ (fs : List (List ℕ)). AreFamilies l arrows c.args.goal.now fs) (sym c.as_slice.ensures.value) c.in_ok-families.ensures in
    cover_below l arrows c.args.goal.now c.as_slice.result.now h s ((c.in_ok-covers.ensures.exactly s).0 m) i k

pub get-requires : goal.get-requires
get-requires c =
    let f = rw c.in-Some.is at c.in_ok-place.ensures in
    slice_get_within c.in_ok-covers.covers c.in-Some.place f.element f.there

pub unreachable-requires : goal.unreachable-requires
unreachable-requires c =
    let l = c.args.lib.now in
    let goals = forms_of c.args.grammar.now in
    let arrows = arrows_at l c.args.x (length c.args.args.now) in
    let h = subst (λ (fs : List (List ℕ)). AreFamilies l arrows c.args.goal.now fs) (sym c.as_slice.ensures.value) c.in_ok-families.ensures in
    let are = covers_goal l arrows c.args.goal.now c.as_slice.result.now c.in_ok-covers.covers h c.in_ok-covers.ensures in
    let u = cover_given l goals (listed c.args.goal.now) c.args.x c.args.args.now c.in_ok-covers.covers are c.requires.given in
    let f = rw c.in-None.is at c.in_ok-place.ensures in
    f u.0 u.1 u.2

pub returns : goal.returns
returns c =
    let l = c.args.lib.now in
    let goals = forms_of c.args.grammar.now in
    let arrows = arrows_at l c.args.x (length c.args.args.now) in
    let h = subst (λ (fs : List (List ℕ)). AreFamilies l arrows c.args.goal.now fs) (sym c.as_slice.ensures.value) c.in_ok-families.ensures in
    let are = covers_goal l arrows c.args.goal.now c.as_slice.result.now c.in_ok-covers.covers h c.in_ok-covers.ensures in
    let at = rw c.in-Some.is at c.in_ok-place.ensures in
    let low = slice_get_within c.in_ok-covers.covers c.in-Some.place at.element at.there in
    first_choice l goals (listed c.args.goal.now) c.args.x c.args.args.now c.in_ok-covers.covers are c.in-Some.place c.in_ok-from_slice-in-Some.field-0
    (got_list_item c.in_ok-covers.covers c.in-Some.place c.in_ok-from_slice-in-Some.field-0 (c.in_ok-from_slice-in-Some.ensures ∙ c.get.ensures) low)
    (given_declared l goals (listed c.args.goal.now) c.args.x c.args.args.now c.requires.given)
    (given_within l goals (listed c.args.goal.now) c.args.x c.args.args.now c.requires.given) at
