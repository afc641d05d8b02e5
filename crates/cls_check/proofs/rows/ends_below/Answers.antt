use Rattle.std.proofs.Common.{◌≡◌, ◌-◌, ◌↔◌, get_or, subst, sym, arith}
use Rattle.std.proofs.lemmas.Option.{get_or_from_slice_get}
use Rattle.cls_base.specs.Ty.{type_of}
use Rattle.cls_path.specs.Paths.{listed, type_of_paths, SuitsAll}
use Rattle.cls_taxon.specs.Orders.{Declared}
use Rattle.cls_library.specs.Libraries.{variances_in}
use Rattle.cls_proof.specs.Certificates.{ProofRow}
use Rattle.cls_proof.specs.Rows.{row_seen}
use Rattle.cls_check.specs.Checking.{EndsBelow, IsSubtype}
use Rattle.cls_check.proofs.Order.{form_by, subtype_by}
use Rattle.cls_check.proofs.RowLaws.{form_le, ends_at}
use Rattle.cls_check.proofs.rows.ends_below.Goals as goal

pub returns : goal.returns
returns c =
    let l = c.args.lib.now in
    let rows = c.args.rows.now in
    let r = row_seen c.get.result in
    let k = c.len-count.result - 1 in
    let asked = type_of_paths (listed c.args.asked.now) in
    let is : get_or rows k r ≡ r = get_or_from_slice_get rows k r r c.get.ensures in
    let form = form_by l c.taxonomy.result.now c.taxonomy.ensures r.goal (listed c.in_ok-goal.goal) c.in_ok-goal.ensures.form in
    let le = subtype_by l c.taxonomy-2.result.now c.taxonomy-2.ensures (type_of_paths (listed c.in_ok-goal.goal)) asked c.le.ensures.exact in
    let up = form_le l r.goal asked (listed c.in_ok-goal.goal) form in
    let ends = subst (λ (q : ProofRow). EndsBelow l rows asked ↔ IsSubtype l q.goal asked) is (ends_at l rows k r asked (omega arith)) in
    ((λ t. ends.1 (up.0 (le.0 t))), (λ h. le.1 (up.1 (ends.0 h))))

pub le-requires-clause-suits : goal.le-requires-clause-suits
le-requires-clause-suits c =
    let form = form_by c.args.lib.now c.taxonomy.result.now c.taxonomy.ensures (type_of c.get.result.goal.now) (listed c.in_ok-goal.goal) c.in_ok-goal.ensures.form in
    subst (λ (t : Declared). SuitsAll (variances_in t) (listed c.in_ok-goal.goal)) (sym c.taxonomy-2.ensures) form.normal.suits
