use Rattle.std.proofs.Common.{◌^◌, ◌<◌, ◌≡◌, true, false, not, eqb-true, eq-eqb, ap, sym, ◌∙◌, arith}
use Rattle.cls_cover.proofs.SetBits.{is_single, single_power}
use Rattle.cls_cover.proofs.sets.is_single.Goals as goal

pub returns-then-set-ne0 : goal.returns-then-set-ne0
returns-then-set-ne0 c =
    let l : c.args.set < 2 ^ 128 = omega arith in
    let p : 0 < c.args.set = omega (arith, c.if-set-ne0.true) in
    ((λ e. is_single c.args.set l p (eqb-true _ _ e)), (λ s. eq-eqb _ _ (single_power c.args.set l s).1))

pub returns-else-set-ne0 : goal.returns-else-set-ne0
returns-else-set-ne0 c =
    let l : c.args.set < 2 ^ 128 = omega arith in (
      (λ e. absurd (clash (sym e ∙ ap not (eq-eqb c.args.set 0 c.if-set-ne0.false)))),
      (λ s. let p = (single_power c.args.set l s).0 in let z = c.if-set-ne0.false in absurd (omega arith)),
    )
  where
    clash : true ≡ false → ⊥
    clash e = cc
