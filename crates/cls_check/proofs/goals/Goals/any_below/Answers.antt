use Rattle.std.proofs.Common.{subst, sym, ◌∙◌, arith, below_more, List, []}
use Rattle.std.specs.Prelude.{Contains}
use Rattle.std.proofs.lemmas.List.{get_or_default}
use Rattle.std.proofs.lemmas.List.Elements.{All-contains}
use Rattle.cls_base.specs.Subtyping.{reflexivity}
use Rattle.cls_taxon.specs.Orders.{Declared}
use Rattle.cls_path.specs.Paths.{TypePath, listed, type_of_paths, SuitsAll}
use Rattle.cls_library.specs.Libraries.{variances_in}
use Rattle.cls_check.specs.Checking.{IsSubtype}
use Rattle.cls_check.proofs.Keys.{found_as}
use Rattle.cls_check.proofs.Loops.{not-false, is-true, differs, item, passed}
use Rattle.cls_check.proofs.Order.{subtype_by}
use Rattle.cls_check.proofs.goals.Goals.any_below.Goals as goal

pub returns-then-contains : goal.returns-then-contains
returns-then-contains c = ((λ t. (c.args.nf.now, (found_as c.self.inside.goals.keys c.args.self.now c.self.view_is c.args.nf.now c.contains.result c.contains.ensures).0 c.if-contains.true, reflexivity)), (λ h. is-true))

pub le-requires-clause-suits : goal.le-requires-clause-suits
le-requires-clause-suits c =
    let m = item c.as_slice-goal-items.result.now c.loop-goal.goal-index c.goal-item.result c.goal-item.is c.loop-goal-test.true in
    subst (λ (d : Declared). SuitsAll (variances_in d) (listed c.goal-item.result)) (sym c.taxonomy.ensures)
    (c.requires.goals c.goal-item.result (subst (λ (q : List (List TypePath)). Contains q c.goal-item.result) (c.as_slice-goal-items.ensures.keys ∙ c.self.view_is) m))

pub returns-then-le : goal.returns-then-le
returns-then-le c =
    let m = item c.as_slice-goal-items.result.now c.loop-goal.goal-index c.goal-item.result c.goal-item.is c.loop-goal-test.true in (
      (λ t. (
        c.goal-item.result,
        subst (λ (q : List (List TypePath)). Contains q c.goal-item.result) (c.as_slice-goal-items.ensures.keys ∙ c.self.view_is) m,
        (subtype_by c.args.lib.now c.taxonomy.result.now c.taxonomy.ensures (type_of_paths (listed c.goal-item.result)) (type_of_paths (listed c.args.nf.now)) c.le.ensures.exact).0 c.if-le.true,
      )),
      (λ h. is-true),
    )

pub loop-goal-preserved : goal.loop-goal-preserved
loop-goal-preserved c =
    below_more _ _ c.loop-goal.invariant (λ h. differs (sym c.if-le.false ∙ (subtype_by c.args.lib.now c.taxonomy.result.now c.taxonomy.ensures (type_of_paths (listed c.goal-item.result)) (type_of_paths (listed c.args.nf.now)) c.le.ensures.exact).1
    (subst (λ (q : List TypePath). IsSubtype c.args.lib.now (type_of_paths (listed q)) (type_of_paths (listed c.args.nf.now))) (sym (c.goal-item.is ∙ get_or_default c.as_slice-goal-items.result.now c.loop-goal.goal-index c.goal-item.result [] c.loop-goal-test.true)) h)))

pub returns : goal.returns
returns c = (
  (λ t. absurd (not-false t)),
  (λ h. absurd (All-contains (λ (q : List TypePath). IsSubtype c.args.lib.now (type_of_paths (listed q)) (type_of_paths (listed c.args.nf.now)) → ⊥) c.as_slice-goal-items.result.now h.0
      (passed (λ (q : List TypePath). IsSubtype c.args.lib.now (type_of_paths (listed q)) (type_of_paths (listed c.args.nf.now)) → ⊥) c.as_slice-goal-items.result.now [] c.loop-goal.goal-index (omega arith) c.loop-goal.invariant)
      (subst (λ (q : List (List TypePath)). Contains q h.0) (sym (c.as_slice-goal-items.ensures.keys ∙ c.self.view_is)) h.1) h.2)),
)
