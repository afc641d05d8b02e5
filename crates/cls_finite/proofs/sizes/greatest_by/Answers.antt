use Rattle.std.proofs.Common.{◌≡◌, ◌∙◌, ℕ, sym, max, true, false, arith}
use Rattle.cls_base.specs.Columns.{rule_of}
use Rattle.cls_term.specs.Costs.{cost_of}
use Rattle.cls_finite.specs.declared.sizes.TheConstants.{SIZE_CAP}
use Rattle.cls_finite.proofs.Greatest.{greatest-next}
use Rattle.cls_finite.proofs.sizes.greatest_by.Goals as goal
use Rattle.cls_finite.proofs.sizes.greatest_by.Goals.{then-is_useful, else-is_useful}

none-more : (n : ℕ) → max 0 n ≡ n
none-more n = omega arith

pub loop-place-preserved : goal.loop-place-preserved
loop-place-preserved c =
    let next = greatest-next SIZE_CAP (cost_of c.args.costs.now) c.args.marks.now c.args.flags.now c.args.rules.now c.loop-place.place (rule_of c.get-rule.result) c.get-rule.ensures in
    elim c.if-is_useful.branch [
      | then-is_useful w ↦ w.greatest-is ∙ (w.max-greatest.ensures ∙ ((λ j. max (w.size_by.ensures j) (c.loop-place.invariant j)) ∙ sym (next true (sym c.is_useful.ensures ∙ w.if-is_useful.true))))
      | else-is_useful w ↦ w.greatest-is ∙ (c.loop-place.invariant ∙ sym (next false (sym c.is_useful.ensures ∙ w.if-is_useful.false) ∙ none-more _))
    ]
