use Rattle.std.proofs.Common.{ℕ, ◌^◌, ◌+◌, ◌<◌, ◌↔◌, ◌≡◌, true, false, length, sym, subst, ◌∙◌, arith}
use Rattle.cls_cover.specs.Sets.{IsIn, MeetsAlone}
use Rattle.cls_cover.proofs.SetBits.{alone_yes, alone_no, alone_all}
use Rattle.cls_cover.proofs.sets.each_meets_alone.Goals as goal
use Rattle.cls_cover.proofs.sets.each_meets_alone.Goals.{then-is_single, else-is_single}

pub loop-other-preserved : goal.loop-other-preserved
loop-other-preserved c = elim c.if-is_single.branch [
  | then-is_single w ↦ subst (λ n. (x : ℕ) → IsIn n x ↔ (IsIn c.args.set x × MeetsAlone c.args.sets.now (c.loop-other.other-index + 1) c.args.set x)) (sym w.found-is) (alone_yes c.args.sets.now c.loop-other.other-index c.args.set c.loop-other.found c.loop-other.invariant (c.is_single.ensures.0 w.if-is_single.true))
  | else-is_single w ↦ subst (λ n. (x : ℕ) → IsIn n x ↔ (IsIn c.args.set x × MeetsAlone c.args.sets.now (c.loop-other.other-index + 1) c.args.set x)) (sym w.found-is) (alone_no c.args.sets.now c.loop-other.other-index c.args.set c.loop-other.found c.loop-other.invariant (λ s. differs (sym (c.is_single.ensures.1 s) ∙ w.if-is_single.false)))
]
  where
    differs : true ≡ false → ⊥
    differs e = cc

pub returns : goal.returns
returns c =
    let l : c.loop-other.found < 2 ^ 128 = omega arith in
    let m : c.args.set < 2 ^ 128 = omega arith in
    let e : c.loop-other.other-index ≡ length c.args.sets.now = omega arith in
    alone_all c.args.sets.now (length c.args.sets.now) c.args.set c.loop-other.found l m
    (subst (λ n. (x : ℕ) → IsIn c.loop-other.found x ↔ (IsIn c.args.set x × MeetsAlone c.args.sets.now n c.args.set x)) e c.loop-other.invariant)
