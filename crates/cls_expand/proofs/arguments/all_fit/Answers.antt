use Rattle.std.proofs.Common.{◌≡◌, ◌<◌, ◌≤◌, length, get_or, [], List, true, false, sym, ◌∙◌, subst, arith}
use Rattle.cls_base.proofs.Lists.{Contains-map}
use Rattle.cls_path.specs.Paths.{TypePath, listed, type_of_paths}
use Rattle.cls_norm.specs.Fit.{IsFit}
use Rattle.cls_cover.proofs.Lists.{get_any}
use Rattle.cls_expand.proofs.Making.{in_mapped}
use Rattle.cls_expand.proofs.arguments.all_fit.Goals as goal

pub returns-then-not-branch : goal.returns-then-not-branch
returns-then-not-branch c = (
  listed c.nf-item.result,
  Contains-map listed c.args.args.now c.nf-item.result (c.loop-nf.nf-index, c.loop-nf-test.true, sym c.nf-item.is),
  (λ g.
      let t : c.in_ok-fit.field-0 ≡ true = c.in_ok-fit.ensures.1 g in
      let f : c.in_ok-fit.field-0 ≡ false = c.if-not-branch.true in
      absurd (let e : true ≡ false = sym t ∙ f in cc)),
)

pub returns : goal.returns
returns c = λ n m.
    let r = in_mapped listed c.args.args.now n m in
    let k = r.1 in
    let l : k.0 < length c.args.args.now = k.1 in
    let t : length c.args.args.now ≤ c.loop-nf.nf-index = c.loop-nf-test.false in
    let e : get_or c.args.args.now k.0 [] ≡ r.0 = get_any c.args.args.now k.0 [] r.0 k.1 ∙ k.2 in
    subst (λ p. IsFit (type_of_paths p)) r.2 (subst (λ (s : List TypePath). IsFit (type_of_paths (listed s))) e (c.loop-nf.invariant k.0 (omega arith)))
