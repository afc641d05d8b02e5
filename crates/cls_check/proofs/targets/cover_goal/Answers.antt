use Rattle.std.proofs.Common.{ℕ, subst, sym, ◌∙◌, arith, below_more, List}
use Rattle.std.specs.Prelude.{Contains}
use Rattle.std.proofs.lemmas.List.{get_or_default}
use Rattle.std.proofs.lemmas.List.Elements.{All-contains}
use Rattle.cls_path.specs.Paths.{TypePath, unit}
use Rattle.cls_check.specs.Checking.{LeadsTo}
use Rattle.cls_check.specs.Places.{arrows_in}
use Rattle.cls_check.proofs.Loops.{not-false, is-true, differs, item, passed}
use Rattle.cls_check.proofs.Order.{suits_item, listed_item, item_listed}
use Rattle.cls_check.proofs.targets.cover_goal.Goals as goal

pub some_leads-requires-clause-suits : goal.some_leads-requires-clause-suits
some_leads-requires-clause-suits c =
    let m = item c.paths-path-items.result.now c.loop-path.path-index c.path-item.result c.path-item.is c.loop-path-test.true in
    suits_item c.args.lib.now c.args.goal.now c.requires.suits c.path-item.result (subst (λ (ps : List TypePath). Contains ps c.path-item.result) c.paths-path-items.ensures m)

pub returns-then-not-some_leads : goal.returns-then-not-some_leads
returns-then-not-some_leads c =
    let m = item c.paths-path-items.result.now c.loop-path.path-index c.path-item.result c.path-item.is c.loop-path-test.true in
    let n = item_listed c.args.goal.now c.path-item.result (subst (λ (ps : List TypePath). Contains ps c.path-item.result) c.paths-path-items.ensures m) in
    ((λ t. absurd (not-false t)), (λ h. absurd (differs (sym c.if-not-some_leads.true ∙ c.some_leads.ensures.1 (h c.path-item.result n)))))

pub loop-path-preserved : goal.loop-path-preserved
loop-path-preserved c =
    below_more _ _ c.loop-path.invariant
    (subst (λ (q : TypePath). (i : ℕ) × Contains c.args.positions.now i × LeadsTo c.args.lib.now (arrows_in c.args.lib.now c.args.place) q i)
    (c.path-item.is ∙ get_or_default c.paths-path-items.result.now c.loop-path.path-index c.path-item.result unit c.loop-path-test.true)
    (c.some_leads.ensures.0 c.if-not-some_leads.false))

pub returns : goal.returns
returns c = (
  (λ t q i.
      let all = passed (λ (p : TypePath). (i : ℕ) × Contains c.args.positions.now i × LeadsTo c.args.lib.now (arrows_in c.args.lib.now c.args.place) p i) c.paths-path-items.result.now unit c.loop-path.path-index (omega arith) c.loop-path.invariant in
      All-contains (λ (p : TypePath). (i : ℕ) × Contains c.args.positions.now i × LeadsTo c.args.lib.now (arrows_in c.args.lib.now c.args.place) p i) c.paths-path-items.result.now q all
      (subst (λ (ps : List TypePath). Contains ps q) (sym c.paths-path-items.ensures) (listed_item c.args.goal.now q i))),
  (λ h. is-true),
)
